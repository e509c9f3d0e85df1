use Prim.Native.Nat.{◌-◌, ◌≤◌}
use lib.ListN.{length}
use Rattle.smf.proofs.ChunkLaws.{Tracks}
use mathlib.Core.Path.{◌≡◌}
use Rattle.smf.proofs.check.read_tracks.Given as goal

abbrev pub invariant-loop : goal.invariant-loop
invariant-loop l = (l.at ≤ length l.file) × (Tracks l.file l.count l.first ≡ Tracks l.file (l.count - l.counter) l.at)
