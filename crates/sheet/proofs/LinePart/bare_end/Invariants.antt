use Prim.Native.Nat.{◌-◌}
use lib.ListN.{length}
use Rattle.sheet.proofs.CellLaws.{Bare}
use Rattle.sheet.proofs.LinePart.bare_end.Given as goal

abbrev pub invariant-loop-p : goal.invariant-loop-p
invariant-loop-p l = Bare l.self.sep l.self.twice l.self.bytes.now l.at l.p

abbrev pub decreases-loop-p : goal.decreases-loop-p
decreases-loop-p l = length l.self.bytes.now - l.p
