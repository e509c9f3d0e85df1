use Rattle.midicsv_record.specs.Line.{size_as}
use Rattle.midicsv_record.proofs.LineLaws.{size_wrong, name_wrong}
use Rattle.midicsv_record.proofs.RefusalLaws.{only_range}
use mathlib.Core.Path.{sym, ◌∙◌, ap}
use Rattle.midicsv_record.proofs.refusal.named_refusal.Goals as goal

pub returns-in_default : goal.returns-in_default
returns-in_default c = rw c.in_default.is (name_wrong c.args.line.now)

pub returns-in-Ok : goal.returns-in-Ok
unfolding size_as
returns-in-Ok c =
    let l = c.args.line.now in
    rw c.in-Some.is (only_range l c.in-Some.name _ (ap size_as (sym c.in-Ok.is) ∙ c.size_of.ensures) (rw c.in-Some.is at c.requires.fact_2))

pub returns-in-Err : goal.returns-in-Err
unfolding size_as
returns-in-Err c = rw c.in-Some.is (size_wrong c.args.line.now c.in-Some.name _ (ap size_as (sym c.in-Err.is) ∙ c.size_of.ensures))
