-- The cells of a row one by one: the first, and those after it.
use Rattle.std.specs.Prelude.{ℕ, List, [], ◌∷◌}
use Rattle.midicsv.specs.Result.{Result, good, bad}
use Rattle.sheet_table.specs.Cut.{cut}

-- a cell in front of others
unfoldable pub cons_cell : List ℕ → Result (List (List ℕ)) → Result (List (List ℕ))
cons_cell c (good cs) = good (c ∷ cs)
cons_cell c (bad n) = bad n

-- the cells after one that ends here: none at the row's end, else those after the separator
unfoldable pub cells_after : ℕ → List ℕ → Result (List (List ℕ))
cells_after sep [] = good []
cells_after sep (x ∷ l) = cut sep l
