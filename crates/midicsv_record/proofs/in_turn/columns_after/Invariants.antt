use mathlib.Core.Path.{◌≡◌}
use lib.ListN.{length, drop}
use Rattle.midicsv_record.specs.Table.{columns_at}
use Rattle.midicsv_record.proofs.InTurnLaws.{FirstsRead}
use Rattle.midicsv_record.proofs.in_turn.columns_after.Given as goal

abbrev pub invariant-loop-i : goal.invariant-loop-i
invariant-loop-i l = (length l.values ≡ 5) × FirstsRead (columns_at l.fn.name) (drop l.comma l.line) l.values l.i (drop l.next l.line)
