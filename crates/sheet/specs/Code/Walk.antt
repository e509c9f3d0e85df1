-- What the inner functions over the cells of a row say.
use Rattle.std.specs.Prelude.{◌≡◌, ℕ, suc, ◌+◌, ◌≤◌, Bool, false, List, [], ◌∷◌, length, eqb, Option, Some, None}
use Rattle.event.specs.Choice.{pick}
use Rattle.midicsv.specs.ReadField.{read_field}
use Rattle.midicsv.specs.Result.{Result, good, bad}
use Rattle.sheet_table.specs.Table.{is_empty, all_empty, name_in, text_of_name, joined}
use Rattle.sheet.specs.Code.Seen.{Passed}
use Rattle.sheet.specs.Code.Row.{place_as, fields_in}
use Rattle.sheet.specs.declared.Row.{Row}
use Rattle.sheet.specs.declared.Cell.{Cell}

-- what is known of a row whose cells were counted as r, after the cell c
pub record Grown (r : Row) (c : List ℕ) (s : Row) : Type 0 where
  pub cells : s.cells ≡ r.cells + 1
  pub kept : s.kept ≡ pick (is_empty c) r.kept (r.cells + 1)
  pub place : place_as s.place ≡ pick (eqb (r.cells + 1) 3) (text_of_name (name_in (read_field c))) (place_as r.place)

-- q is the place after a cell that ends at p: after the separator, or the line's end
pub data Stepped (twice : Bool) (l : List ℕ) (p q : ℕ) : Type 0 where
  ended : length l ≤ p → q ≡ p → Stepped twice l p q
  passed : Passed twice l p q → Stepped twice l p q

-- a comma before each field but the first
unfoldable pub comma : ℕ → List ℕ
comma i = pick (eqb i 0) [] (44 ∷ [])

-- so many fields of a row, as a line
unfoldable pub fields_of : ℕ → Option ℕ → Result (List (List ℕ)) → List ℕ
fields_of count place (good cs) = joined (fields_in count place 0 cs)
fields_of count place (bad n) = []

-- a row that can be cut, with so many fields: at most one past its cells
unfoldable pub Fielded : ℕ → Result (List (List ℕ)) → Type 0
Fielded count (good cs) = count ≤ suc (length cs)
Fielded count (bad n) = ⊥

-- all cells are empty; no where the row cannot be cut
unfoldable pub all_empty_in : Result (List (List ℕ)) → Bool
all_empty_in (good cs) = all_empty cs
all_empty_in (bad n) = false

-- the one cell stands in the line
unfoldable pub LoneWithin : List ℕ → Option Cell → Type 0
LoneWithin l (Some c) = (c.from ≤ c.to) × (c.to ≤ length l)
LoneWithin l None = Unit {0}
