use Prim.Native.Nat.{◌-◌}
use lib.ListN.{length, drop}
use Rattle.smf.specs.Reader.{read_chunk}
use Rattle.smf.specs.Step.{chunk_step}
use mathlib.Core.Path.{◌≡◌}
use Rattle.smf.proofs.track.next_track.Given as goal

abbrev pub invariant-loop-from : goal.invariant-loop-from
invariant-loop-from l = chunk_step (length l.file) (read_chunk l.at (drop l.at l.file)) ≡ chunk_step (length l.file) (read_chunk l.from (drop l.from l.file))

abbrev pub decreases-loop-from : goal.decreases-loop-from
decreases-loop-from l = length l.file - l.at
