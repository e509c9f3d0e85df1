-- Words that stand in a row, all of one length.
use Rattle.std.specs.Prelude.{ℕ, zero, suc, List, [], ◌∷◌, length, take, drop, leb}
use Rattle.event.specs.Choice.{pick}

-- at most k words of n bytes
unfoldable pub words_for : ℕ → ℕ → List ℕ → List (List ℕ)
words_for zero n l = []
words_for (suc k) n l = pick (leb n (length l)) (take n l ∷ words_for k n (drop n l)) []

-- the words of n bytes (of one and more), one after the other
unfoldable pub words_in : ℕ → List ℕ → List (List ℕ)
words_in n l = words_for (length l) n l
