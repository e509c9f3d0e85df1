use Prim.Native.Nat.{◌-◌}
use lib.ListN.{length}
use Rattle.midicsv_scan.proofs.FieldsLaws.{Counting}
use Rattle.midicsv_scan.proofs.fields.count_fields.Given as goal

abbrev pub invariant-loop-next : goal.invariant-loop-next
invariant-loop-next l = Counting l.line l.at l.n

abbrev pub decreases-loop-next : goal.decreases-loop-next
decreases-loop-next l = length l.line - l.at
