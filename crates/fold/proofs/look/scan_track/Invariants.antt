use Prim.Native.Nat.{◌-◌, ◌≤◌}
use lib.ListN.{length}
use Rattle.fold.proofs.ScanLaws.{Scanning}
use Rattle.fold.proofs.look.scan_track.Given as goal

abbrev pub invariant-loop-read : goal.invariant-loop-read
invariant-loop-read l = (l.cursor.place ≤ length l.body) × Scanning l.body l.base l.cursor.place l.cursor.time.0 l.cursor.status

abbrev pub decreases-loop-read : goal.decreases-loop-read
decreases-loop-read l = length l.body - l.cursor.place
