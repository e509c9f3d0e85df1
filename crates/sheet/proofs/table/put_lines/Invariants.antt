use Prim.Native.Nat.{◌-◌}
use lib.ListN.{length}
use Rattle.event_write.proofs.WriteLaws.{Remains}
use Rattle.sheet.proofs.TableLeftLaws.{TableLeft}
use mathlib.Core.Path.{◌≡◌}
use Rattle.sheet.proofs.table.put_lines.Given as goal

abbrev pub invariant-loop-at : goal.invariant-loop-at
invariant-loop-at l = (length l.out ≡ length l.initial.out) × Remains l.initial.out 0 (TableLeft l.sep l.table 0) l.out l.next (TableLeft l.sep l.table l.at)

abbrev pub decreases-loop-at : goal.decreases-loop-at
decreases-loop-at l = length l.table - l.at
