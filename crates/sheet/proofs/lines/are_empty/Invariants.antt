use Prim.Native.Nat.{◌-◌}
use lib.ListN.{length}
use Rattle.sheet.proofs.LoneLaws.{Emptied}
use Rattle.sheet.proofs.lines.are_empty.Given as goal

abbrev pub invariant-loop-cell : goal.invariant-loop-cell
invariant-loop-cell l = Emptied l.line.sep l.line.bytes.now l.from l.at

abbrev pub decreases-loop-cell : goal.decreases-loop-cell
decreases-loop-cell l = length l.line.bytes.now - l.at
