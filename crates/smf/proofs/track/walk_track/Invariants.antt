use Prim.Native.Nat.{◌+◌, ◌-◌, ◌≤◌}
use lib.ListN.{length, drop}
use Rattle.smf.specs.Reader.{read_all}
use Rattle.smf.specs.Step.{walk_step}
use Rattle.smf.specs.Padding.{all_padding}
use mathlib.Core.Path.{◌≡◌}
use Rattle.smf.proofs.track.walk_track.Given as goal

abbrev pub invariant-loop-read : goal.invariant-loop-read
invariant-loop-read l = (l.cursor.place ≤ length l.body) × (l.events ≤ l.cursor.place) × (walk_step 0 0 (all_padding 0 0 l.body) (read_all l.base 0 0 l.body) ≡ walk_step l.cursor.time.0 l.events (all_padding 0 0 l.body) (read_all (l.base + l.cursor.place) l.cursor.time.0 l.cursor.status (drop l.cursor.place l.body))) × (all_padding 0 0 l.body ≡ l.padding + all_padding l.cursor.time.0 l.cursor.status (drop l.cursor.place l.body)) × (l.padding ≤ l.cursor.place)

abbrev pub decreases-loop-read : goal.decreases-loop-read
decreases-loop-read l = length l.body - l.cursor.place
