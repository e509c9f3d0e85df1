-- A cell of a line as it is found, and what it is in the line.
use Rattle.std.specs.Prelude.{◌≡◌, ℕ, ◌<◌, ◌≤◌, Bool, true, false, ◌&&◌, not, List, [], ◌∷◌, length, get_or, drop, eqb, Option, Some, None}
use Rattle.event.specs.Choice.{pick}
use Rattle.midicsv.specs.Result.{bad}
use Rattle.sheet_table.specs.Cut.{has, blank_beside, skip_beside, begins, quotes, closed, cut_from, cut}
use Rattle.sheet_table.specs.Code.Cells.{cons_cell, cells_after}
use Rattle.sheet_table.specs.Table.{doubled}
use Rattle.sheet.specs.Code.Seen.{singled, seen, slice, Reached}
use Rattle.sheet.specs.declared.Cell.{Cell}

-- the content of a cell by its bytes: in quotes two quotes are one
unfoldable pub content_of : Bool → List ℕ → List ℕ
content_of quoted raw = pick quoted (singled raw) raw

-- in the part l, read in one way or the other, the cell c begins at the place at
pub record CellAt (sep : ℕ) (twice : Bool) (l : List ℕ) (at : ℕ) (c : Cell) : Type 0 where
  pub cells : cut sep (seen twice (drop at l)) ≡ cons_cell (content_of c.quoted (seen twice (slice c.from c.to l))) (cells_after sep (seen twice (drop c.next l)))
  -- the quotes of a quoted cell come in pairs
  pub paired : c.quoted ≡ true → doubled (singled (seen twice (slice c.from c.to l))) ≡ seen twice (slice c.from c.to l)
  -- the separator, or the line's end, is at next
  pub parted : c.next < length l → get_or l c.next 0 ≡ sep
  pub after : at ≤ c.from
  pub ordered : c.from ≤ c.to
  pub before : c.to ≤ c.next
  pub inside : c.next ≤ length l

-- the first cell from a place on; or the line cannot be cut there
unfoldable pub CellIs : ℕ → Bool → List ℕ → ℕ → Option Cell → Type 0
CellIs sep twice l at (Some c) = CellAt sep twice l at c
CellIs sep twice l at None = cut sep (seen twice (drop at l)) ≡ bad 22

-- ---- the parts of a cell

-- the bare bytes from a place on end at b: the separator, or the line's end, comes there first
pub record BareEnd (sep : ℕ) (twice : Bool) (l : List ℕ) (a b : ℕ) : Type 0 where
  pub reached : Reached twice l a b
  pub free : has sep (seen twice (slice a b l)) ≡ false
  pub parted : b < length l → get_or l b 0 ≡ sep

-- a quote, and no other after it
unfoldable pub closes : List ℕ → Bool
closes [] = false
closes (c ∷ l) = eqb c 34 && not (begins 34 l)

-- the bytes in quotes from a place on end at b: the closing quote, or the line's end, comes there first
pub record QuoteEnd (twice : Bool) (l : List ℕ) (a b : ℕ) : Type 0 where
  pub reached : Reached twice l a b
  pub paired : doubled (singled (seen twice (slice a b l))) ≡ seen twice (slice a b l)
  pub closing : b < length l → closes (seen twice (drop b l)) ≡ true

-- after a closing quote p is the place of the first byte that separates or is no blank, whichever way the part is read
pub record ClosedTo (sep : ℕ) (l : List ℕ) (at p : ℕ) : Type 0 where
  pub same : (twice : Bool) → cut_from sep (seen twice (drop at l)) closed ≡ cut_from sep (seen twice (drop p l)) closed
  pub stops : p < length l → (get_or l p 0 ≡ sep → ⊥) → blank_beside sep (get_or l p 0) ≡ false
  pub later : at ≤ p
  pub inside : p ≤ length l

-- the cell whose opening quote stands just before a place, from wherever it begins
unfoldable pub QuotedIs : ℕ → Bool → List ℕ → ℕ → Option Cell → Type 0
QuotedIs sep twice l at r = (a : ℕ) → a ≤ at → cut sep (seen twice (drop a l)) ≡ cut_from sep (seen twice (drop at l)) quotes → CellIs sep twice l a r

-- the cell from a place on, where no quote opens it
unfoldable pub BareIs : ℕ → Bool → List ℕ → ℕ → Option Cell → Type 0
BareIs sep twice l at r = begins 34 (skip_beside sep (seen twice (drop at l))) ≡ false → CellIs sep twice l at r
