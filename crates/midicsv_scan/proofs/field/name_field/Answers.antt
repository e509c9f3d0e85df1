use Rattle.midicsv_scan.proofs.FieldLaws.{name_open, name_is}
use Rattle.midicsv_scan.proofs.field.name_field.Goals as goal

pub returns-in_err-next : goal.returns-in_err-next
returns-in_err-next c = rw c.from_residual.ensures (name_open _ _ _ c.name_end-end.ensures c.in_err-next.ensures.fact_1)

pub returns : goal.returns
returns c = name_is _ _ _ c.name_end-end.ensures _ c.in_ok-next.ensures.fact_1 c.in_ok-next.ensures.fact_2
