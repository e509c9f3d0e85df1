use Prim.Native.Nat.{◌-◌, ◌≤◌}
use lib.ListN.{length}
use Rattle.event_write.proofs.WriteLaws.{Remains}
use Rattle.sheet.proofs.FieldLaws.{Left}
use mathlib.Core.Path.{◌≡◌}
use Rattle.sheet.proofs.field.put_seen.Given as goal

abbrev pub invariant-loop-p : goal.invariant-loop-p
invariant-loop-p l = (l.p ≤ length l.raw) × (length l.out ≡ length l.initial.out) × Remains l.initial.out l.at (Left l.twice l.double l.raw 0) l.out l.next (Left l.twice l.double l.raw l.p)

abbrev pub decreases-loop-p : goal.decreases-loop-p
decreases-loop-p l = length l.raw - l.p
