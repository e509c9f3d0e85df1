use Prim.Native.Nat.{◌-◌, ◌≤◌}
use lib.ListN.{length}
use Rattle.fold.proofs.StartLaws.{Starting}
use mathlib.Core.Path.{◌≡◌}
use Rattle.fold.proofs.rows.start_rows.Given as goal

abbrev pub invariant-loop-i : goal.invariant-loop-i
invariant-loop-i l = (l.i ≤ l.count) × (length l.places ≡ length l.initial.places) × (length l.times ≡ length l.initial.times) × (length l.statuses ≡ length l.initial.statuses) × Starting l.file l.count l.first l.at l.i l.places l.times l.statuses l.initial.places l.initial.times l.initial.statuses

abbrev pub decreases-loop-i : goal.decreases-loop-i
decreases-loop-i l = l.count - l.i
