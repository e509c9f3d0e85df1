-- The fields of a row one by one, and what looking through a row finds.
use Rattle.std.specs.Prelude.{◌≡◌, ℕ, zero, suc, max, Bool, false, List, [], ◌∷◌, length, eqb, ltb, Option, Some, None}
use Rattle.event.specs.Choice.{pick}
use Rattle.midicsv.specs.Result.{good, bad}
use Rattle.sheet_table.specs.Cut.{cut}
use Rattle.sheet_table.specs.Table.{drop_empty, requote, plain_cell, TextPlace, nowhere, after, text_at, line_by, row_line, table_line}
use Rattle.sheet.specs.Code.Seen.{seen, slice}
use Rattle.sheet.specs.declared.Row.{Row}
use Rattle.sheet.specs.declared.Cell.{Cell}

-- the number of cells before the text, where there is one
unfoldable pub place_as : Option ℕ → TextPlace
place_as None = nowhere
place_as (Some k) = after k

-- whether the cell numbered i is the text
abbrev pub is_text : Option ℕ → ℕ → Bool
is_text None i = false
is_text (Some k) i = eqb k i

-- a cell by its number: the text is quoted, others are plain
unfoldable pub field_at : Option ℕ → ℕ → List ℕ → List ℕ
field_at place i c = pick (is_text place i) (requote c) (plain_cell c)

-- so many fields, the first of them numbered i; past the last cell they are empty
unfoldable pub fields_in : ℕ → Option ℕ → ℕ → List (List ℕ) → List (List ℕ)
fields_in zero place i cs = []
fields_in (suc n) place i [] = field_at place i [] ∷ fields_in n place (suc i) []
fields_in (suc n) place i (c ∷ cs) = field_at place i c ∷ fields_in n place (suc i) cs

-- how many fields a row has, by the number of its cells and of those up to the last that is not empty
unfoldable pub field_count : Option ℕ → ℕ → ℕ → ℕ
field_count None cells kept = kept
field_count (Some k) cells kept = pick (ltb cells k) cells (max kept (suc k))

-- what looking through a row finds: its cells, counted, and where its text stands
pub record Looked (cs : List (List ℕ)) (r : Row) : Type 0 where
  pub cells : r.cells ≡ length cs
  pub kept : r.kept ≡ length (drop_empty cs)
  pub place : place_as r.place ≡ text_at cs

-- of the part l
unfoldable pub RowIs : ℕ → Bool → List ℕ → Option Row → Type 0
RowIs sep twice l (Some r) = (cs : List (List ℕ)) × (cut sep (seen twice l) ≡ good cs) × Looked cs r
RowIs sep twice l None = cut sep (seen twice l) ≡ bad 22

-- the line is what one cell alone holds, or what its cells are
unfoldable pub LoneIs : ℕ → List ℕ → Option Cell → Type 0
LoneIs sep l (Some c) = table_line sep l ≡ line_by row_line 44 (seen c.quoted (slice c.from c.to l))
LoneIs sep l None = table_line sep l ≡ line_by row_line sep l
