use Prim.Native.Nat.{◌%◌}
use Rattle.event.specs.Number.{vlq}
use Rattle.event.proofs.NumberLaws.{in_one, in_two, in_three, in_four}
use Rattle.event_write.specs.Head.{fewest}
use Rattle.event_write.proofs.WriteLaws.{then}
use native.Mathlib.Omega.{arith}
use Rattle.event_write.proofs.number.put_number.Goals as goal

pub returns-then-n-le-MOST_IN_ONE : goal.returns-then-n-le-MOST_IN_ONE
unfolding fewest vlq
returns-then-n-le-MOST_IN_ONE c = rw (in_one (c.args.number % 268435456) (omega arith)) c.put_byte.ensures

pub returns-then-n-le-MOST_IN_TWO : goal.returns-then-n-le-MOST_IN_TWO
unfolding fewest vlq
returns-then-n-le-MOST_IN_TWO c =
    rw (in_two (c.args.number % 268435456) (omega arith) (omega arith))
    (then c.put_byte-a.ensures c.put_byte-then-n-le-MOST_IN_TWO.ensures)

pub returns-then-n-le-MOST_IN_THREE : goal.returns-then-n-le-MOST_IN_THREE
unfolding fewest vlq
returns-then-n-le-MOST_IN_THREE c =
    rw (in_three (c.args.number % 268435456) (omega arith) (omega arith))
    (then c.put_byte-a-then-n-le-MOST_IN_THREE.ensures (then c.put_byte-b.ensures c.put_byte-then-n-le-MOST_IN_THREE.ensures))

pub returns : goal.returns
unfolding fewest vlq
returns c =
    rw (in_four (c.args.number % 268435456) (omega arith))
    (then c.put_byte-a-2.ensures (then c.put_byte-b-2.ensures (then c.put_byte-c.ensures c.put_byte-2.ensures)))
