use Rattle.event_write.specs.Head.{manner_of}
use Prim.Native.Nat.{◌-◌, ◌≤◌}
use lib.ListN.{length}
use Rattle.event.specs.Outcome.{Readable}
use Rattle.event_write.proofs.WriteLaws.{Remains}
use Rattle.smf.proofs.TurnLaws.{A}
use Rattle.smf_write.proofs.TidyLaws.{Left}
use mathlib.Core.Path.{◌≡◌}
use Rattle.smf_write.proofs.tidy.put_events.Given as goal

abbrev pub invariant-loop-read : goal.invariant-loop-read
invariant-loop-read l = (l.cursor.place ≤ length l.body) × (length l.out ≡ length l.initial.out) × Readable (A l.body l.cursor.place l.cursor.time.0 l.cursor.status) × Remains l.initial.out l.from (Left (manner_of l.short) l.body 0 0 0) l.out l.next (Left (manner_of l.short) l.body l.cursor.place l.cursor.time.0 l.cursor.status)

abbrev pub decreases-loop-read : goal.decreases-loop-read
decreases-loop-read l = length l.body - l.cursor.place
