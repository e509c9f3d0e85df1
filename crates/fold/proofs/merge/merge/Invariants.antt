use Prim.Native.Nat.{◌+◌, ◌-◌}
use lib.ListN.{length}
use Rattle.smf.specs.Code.Chain.{placed_from}
use Rattle.fold.proofs.RowLaws.{Least}
use Rattle.fold.proofs.MergeLaws.{Going, Whole}
use mathlib.Core.Path.{◌≡◌}
use Rattle.fold.proofs.merge.merge.Given as goal

abbrev pub invariant-turn : goal.invariant-turn
invariant-turn l =
    (length l.out ≡ length l.initial.out) × (length l.places ≡ length l.initial.places) × (length l.times ≡ length l.initial.times) × (length l.statuses ≡ length l.initial.statuses)
    × Going l.file l.count (placed_from l.file l.count l.first) l.initial.out l.from (Whole l.file l.count l.first) l.out l.next l.last.0 l.force l.places l.times l.statuses l.initial.places l.initial.times l.initial.statuses
    × Least l.count l.times l.statuses l.count l.i

abbrev pub decreases-turn : goal.decreases-turn
decreases-turn l =
    l.from + length (Whole l.file l.count l.first) - l.next
