use lib.ListN.{take}
use Rattle.std.proofs.lemmas.List.{take_all}
use Rattle.fold_piece.specs.Fold.{greatest}
use Rattle.fold.proofs.EndLaws.{greatest_more}
use native.Mathlib.Omega.{arith}
use mathlib.Core.Path.{refl, ◌∙◌, ap}
use Rattle.fold.proofs.search.greatest_time.Goals as goal

pub loop-time-init : goal.loop-time-init
unfolding greatest
loop-time-init c = refl

pub loop-time-preserved : goal.loop-time-preserved
loop-time-preserved c =
    let l = c.loop-time in
    omega (arith, c.max-t.ensures, l.invariant, greatest_more (take c.args.n c.args.times.now) l.time-index c.loop-time-test.true)

pub returns : goal.returns
returns c =
    let ts = take c.args.n c.args.times.now in
    c.loop-time.invariant ∙ ap greatest (take_all c.loop-time.time-index ts (omega (arith, c.loop-time-test.false)))
