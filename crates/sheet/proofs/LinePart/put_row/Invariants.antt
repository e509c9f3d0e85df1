use lib.ListN.{length}
use Rattle.sheet.proofs.RowLaws.{RowLeft}
use mathlib.Core.Path.{◌≡◌}
use Rattle.sheet.proofs.LinePart.put_row.Given as goal

abbrev pub invariant-loop-i : goal.invariant-loop-i
invariant-loop-i l = (length l.out ≡ length l.initial.out) × RowLeft l.self.sep l.self.twice l.self.bytes.now l.count l.place l.initial.out l.at l.out l.next l.p l.i
