use Rattle.std.proofs.Common.{◌≡◌, refl, sym, ◌∙◌, ap₂, ◌+◌, ◌*◌, drop, arith}
use Rattle.event.specs.Bytes.{number, horner}
use Rattle.event.proofs.BytesLaws.{number_more, below_more, below_four}
use Rattle.event.proofs.number.big_endian.Goals as goal

pub loop-k-init : goal.loop-k-init
unfolding number horner
loop-k-init g c = (refl, omega arith)

pub overflow_mul-number : goal.overflow_mul-number
overflow_mul-number g c = omega (arith, c.loop-k.invariant.1, below_four c.loop-k.k (omega (arith, c.loop-k-test.true, c.requires)))

pub overflow_add-number : goal.overflow_add-number
overflow_add-number g c = omega (arith, c.loop-k.invariant.1, c.byte_at.type_inv, below_four c.loop-k.k (omega (arith, c.loop-k-test.true, c.requires)))

pub loop-k-preserved : goal.loop-k-preserved
loop-k-preserved g c =
    let l = c.loop-k in
    let more = number_more l.k (drop c.args.at c.args.body.now) in
    (ap₂ (λ n b. n * 256 + b) l.invariant.0 c.byte_at.ensures ∙ sym more, omega (arith, l.invariant.1, c.byte_at.type_inv, below_more l.k))

pub returns : goal.returns
returns g c = let same : c.loop-k.k ≡ g.row.N = omega (arith, c.loop-k.auto.k-end, c.loop-k-test.false) in rw (sym same) c.loop-k.invariant.0
