use Rattle.std.proofs.Common.{refl}
use Rattle.midicsv.specs.Spell.{is_truth}
use Rattle.midicsv.proofs.TruthLaws.{stripped}
use Rattle.midicsv.proofs.truth.is_truth.Goals as goal

pub returns : goal.returns
unfolding is_truth
returns c =
    let d = c.args.text in
    let e = stripped d.now d c.strip_suffix.result refl c.strip_suffix.ensures.cases in
    rw (c.is_listed.ensures, c.unwrap_or.ensures, e)
