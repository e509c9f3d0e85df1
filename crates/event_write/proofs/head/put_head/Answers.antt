use Rattle.event_write.proofs.WriteLaws.{then}
use Rattle.event_write.proofs.NumberLaws.{fewest_length}
use Rattle.event_write.specs.Head.{head_bytes}
use native.Mathlib.Omega.{arith}
use Rattle.event_write.proofs.head.put_head.Goals as goal

pub put_tail-requires : goal.put_tail-requires
put_tail-requires c = omega (arith, fewest_length c.args.delta.0)

pub returns : goal.returns
unfolding head_bytes
returns c = then c.put_number-p.ensures c.put_tail.ensures
