-- The lines of a text: "lines end at LF or the end of text; one CR before that end is dropped".
use Rattle.std.specs.Prelude.{ℕ, Bool, true, ◌||◌, List, [], ◌∷◌, eqb}
use Rattle.event.specs.Choice.{pick}
use Rattle.midicsv.specs.ReadField.{skip}

-- c at the head of the first line
unfoldable pub onto : ℕ → List (List ℕ) → List (List ℕ)
onto c [] = (c ∷ []) ∷ []
onto c (l ∷ ls) = (c ∷ l) ∷ ls

-- each line without the LF that ends it; "bytes after the last LF are a line"
unfoldable pub lines_of : List ℕ → List (List ℕ)
lines_of [] = []
lines_of (c ∷ s) = pick (eqb c 10) ([] ∷ lines_of s) (onto c (lines_of s))

-- "one CR before that end is dropped"
unfoldable pub trimmed : List ℕ → List ℕ
trimmed [] = []
trimmed (c ∷ []) = pick (eqb c 13) [] (c ∷ [])
trimmed (c ∷ d ∷ l) = c ∷ trimmed (d ∷ l)

-- from the first byte that is no blank on
unfoldable pub is_comment : List ℕ → Bool
is_comment [] = true
is_comment (c ∷ l) = eqb c 35 || eqb c 59

-- "Lines of only spaces and tabs, or whose first other byte is `#` or `;`, are passed over"
unfoldable pub passed_over : List ℕ → Bool
passed_over l = is_comment (skip l)
