-- The cells of a row that a spreadsheet saved (docs/SPREADSHEET.md, "The saved table: what is read", rule 4).
use Rattle.std.specs.Prelude.{ℕ, Bool, true, false, ◌&&◌, ◌||◌, not, List, [], ◌∷◌, eqb}
use Rattle.event.specs.Choice.{pick}
use Rattle.midicsv.specs.Result.{Result, good, bad}
use Rattle.midicsv.specs.Lines.{onto}

-- ---- bytes

-- c stands among the bytes
unfoldable pub has : ℕ → List ℕ → Bool
has c [] = false
has c (d ∷ l) = eqb d c || has c l

-- "A blank is .. a space, or a tab where tab is not the separator"
unfoldable pub blank_beside : ℕ → ℕ → Bool
blank_beside sep c = eqb c 32 || (eqb c 9 && not (eqb sep 9))

-- from the first byte that is no such blank on
unfoldable pub skip_beside : ℕ → List ℕ → List ℕ
skip_beside sep [] = []
skip_beside sep (c ∷ l) = pick (blank_beside sep c) (skip_beside sep l) (c ∷ l)

-- it begins with c
unfoldable pub begins : ℕ → List ℕ → Bool
begins c [] = false
begins c (d ∷ l) = eqb d c

-- ---- the cells of a row

-- where a byte stands: in a bare cell; before the opening quote; in quotes; just after a quote in quotes; after the closing one
pub data Within : Type 0 where
  bare lead quotes a_quote closed : Within

-- a cell whose first byte after blanks is a quote is quoted, any other is bare
unfoldable pub opening : ℕ → List ℕ → Within
opening sep l = pick (begins 34 (skip_beside sep l)) lead bare

-- c in front of the first cell
unfoldable pub on_cell : ℕ → Result (List (List ℕ)) → Result (List (List ℕ))
on_cell c (good cs) = good (onto c cs)
on_cell c (bad n) = bad n

-- an empty cell in front
unfoldable pub new_cell : Result (List (List ℕ)) → Result (List (List ℕ))
new_cell (good cs) = good ([] ∷ cs)
new_cell (bad n) = bad n

-- the cells of the rest of a row. A bare cell goes to the next separator, with its blanks. In quotes two quotes are one; after the
-- closing quote only blanks may come. A quote that is not closed, or other bytes after the closing one: the row cannot be cut
unfoldable pub cut_from : ℕ → List ℕ → Within → Result (List (List ℕ))
cut_from sep [] bare = good ([] ∷ [])
cut_from sep [] lead = good ([] ∷ [])
cut_from sep [] quotes = bad 22
cut_from sep [] a_quote = good ([] ∷ [])
cut_from sep [] closed = good ([] ∷ [])
cut_from sep (c ∷ l) bare = pick (eqb c sep) (new_cell (cut_from sep l (opening sep l))) (on_cell c (cut_from sep l bare))
cut_from sep (c ∷ l) lead = pick (eqb c 34) (cut_from sep l quotes) (cut_from sep l lead)
cut_from sep (c ∷ l) quotes = pick (eqb c 34) (cut_from sep l a_quote) (on_cell c (cut_from sep l quotes))
cut_from sep (c ∷ l) a_quote =
    pick (eqb c 34) (on_cell 34 (cut_from sep l quotes))
    (pick (eqb c sep) (new_cell (cut_from sep l (opening sep l)))
    (pick (blank_beside sep c) (cut_from sep l closed) (bad 22)))
cut_from sep (c ∷ l) closed =
    pick (eqb c sep) (new_cell (cut_from sep l (opening sep l)))
    (pick (blank_beside sep c) (cut_from sep l closed) (bad 22))

-- the contents of the cells of a row
unfoldable pub cut : ℕ → List ℕ → Result (List (List ℕ))
cut sep l = cut_from sep l (opening sep l)

-- ---- empty cells

-- no byte
unfoldable pub is_none : List ℕ → Bool
is_none [] = true
is_none (d ∷ l) = false
