use Prim.Native.Nat.{◌-◌, ◌≤◌}
use mathlib.Core.Path.{◌≡◌}
use Rattle.fold.specs.Code.Search.{least_from, least_of}
use Rattle.fold.proofs.search.least.Given as goal

abbrev pub invariant-loop-i : goal.invariant-loop-i
invariant-loop-i l = (l.i ≤ l.n) × (l.best ≤ l.n) × (least_from (l.n - l.i) l.n l.i l.best l.times l.statuses ≡ least_of l.n l.times l.statuses)

abbrev pub decreases-loop-i : goal.decreases-loop-i
decreases-loop-i l = l.n - l.i
