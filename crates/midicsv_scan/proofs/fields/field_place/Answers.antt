use Rattle.event.proofs.BytesLaws.{bytes_of}
use Rattle.midicsv_scan.proofs.FieldsLaws.{counting_first, counting_on, place_found, place_bad, place_few}
use native.Mathlib.Omega.{arith}
use mathlib.Core.Path.{◌≡◌}
use Rattle.midicsv_scan.proofs.fields.field_place.Goals as goal

pub loop-n-init : goal.loop-n-init
loop-n-init c = counting_first _

pub returns-in_default : goal.returns-in_default
returns-in_default c = place_bad (bytes_of c.args.line.now (λ i. omega (arith, c.type_inv.line i))) c.loop-n.invariant _ c.in_default.ensures.fact_1

pub returns-then-line-next : goal.returns-then-line-next
returns-then-line-next c = place_few (bytes_of c.args.line.now (λ i. omega (arith, c.type_inv.line i))) c.loop-n.invariant _ _ c.in-Some.ensures c.if-line-next.true c.loop-n-test.true

pub loop-n-preserved : goal.loop-n-preserved
loop-n-preserved c = counting_on (bytes_of c.args.line.now (λ i. omega (arith, c.type_inv.line i))) c.loop-n.invariant _ c.in-Some.ensures c.if-line-next.false

pub returns : goal.returns
returns c =
    let z : c.args.i ≡ c.loop-n.n = omega arith in
    rw z (place_found c.loop-n.invariant)
