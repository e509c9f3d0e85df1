use Rattle.std.proofs.Common.{drop}
use Rattle.event_write.proofs.WriteLaws.{Remains}
use Rattle.event_write.proofs.bytes.put_bytes.Given as goal

abbrev pub invariant-loop-b : goal.invariant-loop-b
invariant-loop-b l = Remains l.initial.out l.at l.bytes l.out l.next (drop l.b-index l.bytes)
