use Prim.Native.Nat.{◌-◌}
use lib.ListN.{length, drop}
use Rattle.midicsv.specs.Lines.{lines_of}
use Rattle.sheet_table.specs.Table.{sep_of}
use mathlib.Core.Path.{◌≡◌}
use Rattle.sheet.proofs.table.separator.Given as goal

abbrev pub invariant-loop-at : goal.invariant-loop-at
invariant-loop-at l = sep_of (lines_of (drop l.at l.table)) ≡ sep_of (lines_of l.table)

abbrev pub decreases-loop-at : goal.decreases-loop-at
decreases-loop-at l = length l.table - l.at
