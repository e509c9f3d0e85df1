use Rattle.event.proofs.BytesLaws.{bytes_of}
use Rattle.midicsv_scan.proofs.FieldsLaws.{counting_first, counting_bad, counting_on, counting_last}
use native.Mathlib.Omega.{arith}
use Rattle.midicsv_scan.proofs.fields.count_fields.Goals as goal

pub loop-next-init : goal.loop-next-init
loop-next-init c = counting_first _

pub returns-in_err-next : goal.returns-in_err-next
returns-in_err-next c = rw c.from_residual.ensures (counting_bad (bytes_of c.args.line.now (λ i. omega (arith, c.type_inv.line i))) c.loop-next.invariant c.in_err-next.ensures.fact_1)

pub returns-then-line-next : goal.returns-then-line-next
returns-then-line-next c = counting_last (bytes_of c.args.line.now (λ i. omega (arith, c.type_inv.line i))) c.loop-next.invariant _ c.in_ok-next.ensures c.if-line-next.true

pub loop-next-preserved : goal.loop-next-preserved
loop-next-preserved c = counting_on (bytes_of c.args.line.now (λ i. omega (arith, c.type_inv.line i))) c.loop-next.invariant _ c.in_ok-next.ensures c.if-line-next.false
