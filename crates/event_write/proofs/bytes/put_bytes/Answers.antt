use Rattle.std.proofs.Common.{[], ◌∷◌, ◌++◌, ◌+◌, ◌≡◌, drop, get_or, drop-cons, drop_of_length-le, add-one, arith}
use Rattle.event_write.proofs.WriteLaws.{all_remains, less_remains, none_remains}
use Rattle.event_write.proofs.bytes.put_bytes.Goals as goal

pub loop-b-init : goal.loop-b-init
loop-b-init c = all_remains _ _ _

pub put_byte-next-requires : goal.put_byte-next-requires
put_byte-next-requires c = omega (arith, c.loop-b.invariant.place)

pub loop-b-preserved : goal.loop-b-preserved
loop-b-preserved c =
    let i = c.loop-b.b-index in
    let s = c.args.bytes.now in
    let e : drop i s ≡ (get_or s i 0 ∷ []) ++ drop (i + 1) s = rw (add-one, drop-cons s i 0 c.loop-b-test.true) in
    less_remains (rw e at c.loop-b.invariant) c.put_byte-next.ensures

pub returns : goal.returns
returns c = none_remains (rw (drop_of_length-le c.args.bytes.now c.loop-b-test.false) at c.loop-b.invariant)
