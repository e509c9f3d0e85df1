use Rattle.midicsv_scan.proofs.FieldLaws.{quoted_broken, quoted_open, quoted_is}
use Rattle.midicsv_scan.proofs.field.quoted_field.Goals as goal

pub returns-in_err-end : goal.returns-in_err-end
returns-in_err-end c = rw c.from_residual.ensures (quoted_broken _ _ c.in_err-end.ensures.fact_1)

pub returns-in_err-next : goal.returns-in_err-next
returns-in_err-next c = rw c.from_residual-in_err-next.ensures (quoted_open _ _ _ c.in_ok-end.ensures.fact_1 c.in_err-next.ensures.fact_1)

pub returns : goal.returns
returns c = quoted_is _ _ _ c.in_ok-end.ensures.fact_1 _ c.in_ok-next.ensures.fact_1 c.requires c.in_ok-end.ensures.fact_2 c.in_ok-next.ensures.fact_2
