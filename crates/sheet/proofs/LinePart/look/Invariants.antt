use Prim.Native.Nat.{◌-◌}
use lib.ListN.{length}
use Rattle.sheet.proofs.WalkLaws.{Looking}
use Rattle.sheet.proofs.LinePart.look.Given as goal

abbrev pub invariant-loop-cell : goal.invariant-loop-cell
invariant-loop-cell l = Looking l.self.sep l.self.twice l.self.bytes.now l.at l.row

abbrev pub decreases-loop-cell : goal.decreases-loop-cell
decreases-loop-cell l = length l.self.bytes.now - l.at
