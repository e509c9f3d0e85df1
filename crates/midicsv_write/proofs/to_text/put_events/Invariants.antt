use Rattle.midicsv.specs.Code.Form.{form_of}
use Prim.Native.Nat.{◌-◌, ◌≤◌}
use lib.ListN.{length}
use Rattle.event.specs.Outcome.{Readable}
use Rattle.event_write.proofs.WriteLaws.{Remains}
use Rattle.smf.proofs.TurnLaws.{A}
use Rattle.midicsv_write.proofs.TextLaws.{EventsLeft}
use mathlib.Core.Path.{◌≡◌}
use Rattle.midicsv_write.proofs.to_text.put_events.Given as goal

abbrev pub invariant-loop-read : goal.invariant-loop-read
invariant-loop-read l = (l.cursor.place ≤ length l.body) × (length l.out ≡ length l.initial.out) × Readable (A l.body l.cursor.place l.cursor.time.0 l.cursor.status) × Remains l.initial.out l.from (EventsLeft (form_of l.sheet) l.track l.body 0 0 0) l.out l.next (EventsLeft (form_of l.sheet) l.track l.body l.cursor.place l.cursor.time.0 l.cursor.status)

abbrev pub decreases-loop-read : goal.decreases-loop-read
decreases-loop-read l = length l.body - l.cursor.place
