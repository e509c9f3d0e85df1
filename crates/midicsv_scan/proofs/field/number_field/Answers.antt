use Rattle.midicsv_scan.proofs.FieldLaws.{number_broken, number_open, number_is}
use Rattle.midicsv_scan.proofs.field.number_field.Goals as goal

pub returns-in_err-value : goal.returns-in_err-value
returns-in_err-value c = rw c.from_residual.ensures (number_broken _ _ c.in_err-value.ensures.fact_1)

pub returns-in_err-next : goal.returns-in_err-next
returns-in_err-next c = rw c.from_residual-in_err-next.ensures (number_open _ _ _ _ c.in_ok-value.ensures.fact_1 c.in_err-next.ensures.fact_1)

pub returns : goal.returns
returns c = number_is _ _ _ _ c.in_ok-value.ensures.fact_1 _ c.in_ok-next.ensures.fact_1 c.in_ok-value.ensures.fact_2 c.in_ok-next.ensures.fact_2
