use Prim.Native.Nat.{◌-◌}
use lib.ListN.{length}
use Rattle.smf.proofs.VerdictLaws.{Behind}
use mathlib.Core.Path.{◌≡◌}
use Rattle.smf.proofs.check.after_tracks.Given as goal

abbrev pub invariant-loop-at : goal.invariant-loop-at
invariant-loop-at l = Behind l.file l.at ≡ Behind l.file l.from

abbrev pub decreases-loop-at : goal.decreases-loop-at
decreases-loop-at l = length l.file - l.at
