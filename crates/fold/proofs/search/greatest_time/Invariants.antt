use lib.ListN.{take}
use Rattle.fold_piece.specs.Fold.{greatest}
use mathlib.Core.Path.{◌≡◌}
use Rattle.fold.proofs.search.greatest_time.Given as goal

abbrev pub invariant-loop-time : goal.invariant-loop-time
invariant-loop-time l = l.t ≡ greatest (take l.time-index l.time-items)
