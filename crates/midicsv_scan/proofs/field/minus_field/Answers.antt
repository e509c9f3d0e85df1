use Rattle.midicsv_scan.proofs.FieldLaws.{minus_broken, minus_open, minus_zero, minus_is}
use Rattle.midicsv_scan.proofs.field.minus_field.Goals as goal

pub returns-in_err-value : goal.returns-in_err-value
returns-in_err-value c = rw c.from_residual.ensures (minus_broken _ _ c.in_err-value.ensures.fact_1)

pub returns-in_err-next : goal.returns-in_err-next
returns-in_err-next c = rw c.from_residual-in_err-next.ensures (minus_open _ _ _ _ c.in_ok-value.ensures.fact_1 c.in_err-next.ensures.fact_1)

pub returns-then-value-eq0 : goal.returns-then-value-eq0
returns-then-value-eq0 c = minus_zero _ _ _ _ c.in_ok-value.ensures.fact_1 _ c.in_ok-next.ensures.fact_1 c.in_ok-value.ensures.fact_2 c.in_ok-next.ensures.fact_2 c.if-value-eq0.true

pub returns : goal.returns
returns c = minus_is _ _ _ _ c.in_ok-value.ensures.fact_1 _ c.in_ok-next.ensures.fact_1 c.in_ok-value.ensures.fact_2 c.in_ok-next.ensures.fact_2 c.if-value-eq0.false
