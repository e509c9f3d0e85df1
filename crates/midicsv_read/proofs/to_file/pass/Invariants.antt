use Prim.Native.Nat.{◌-◌}
use lib.ListN.{length}
use Rattle.event_write.specs.Head.{manner_of}
use Rattle.midicsv_read.proofs.PassLaws.{Going}
use mathlib.Core.Path.{◌≡◌}
use Rattle.midicsv_read.proofs.to_file.pass.Given as goal

abbrev pub invariant-loop-i : goal.invariant-loop-i
invariant-loop-i l = (length l.out ≡ length l.initial.out) × Going (manner_of l.short) l.text l.initial.out l.st l.i l.line l.out

abbrev pub decreases-loop-i : goal.decreases-loop-i
decreases-loop-i l = length l.text - l.i
