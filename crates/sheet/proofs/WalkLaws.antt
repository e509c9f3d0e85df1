-- A row looked through cell by cell.
use mathlib.Core.Path.{◌≡◌, refl, sym, ap, ◌∙◌}
use Prim.Native.Nat.{ℕ, ◌+◌, ◌<◌, ◌≤◌}
use mathlib.Core.Bool.{Bool, true, false}
use mathlib.Core.List.{List, [], ◌∷◌, ◌++◌, append_assoc}
use native.Mathlib.Omega.{arith}
use native.Mathlib.Numerals.{add-one}
use lib.ListN.{length, drop, get_or, drop_of_length-le}
use lib.Seq.{drop-cons}
use Rattle.std.proofs.Common.{Some, None}
use Rattle.event.specs.Choice.{pick}
use Rattle.midicsv.specs.Result.{Result, good, bad}
use Rattle.sheet_table.specs.Cut.{cut}
use Rattle.sheet_table.specs.Table.{drop_empty, text_at}
use Rattle.sheet.specs.Code.Seen.{singled, seen, slice, Passed}
use Rattle.sheet_table.specs.Code.Cells.{cons_cell, cells_after}
use Rattle.sheet.specs.Code.Cell.{content_of, CellAt, CellIs}
use Rattle.sheet.specs.Code.Row.{place_as, Looked, RowIs}
use Rattle.sheet.specs.Code.Walk.{Grown}
use Rattle.sheet.specs.declared.Cell.{Cell}
use Rattle.sheet.specs.declared.Row.{Row}
use Rattle.sheet.proofs.FieldsInLaws.{looked_more}

-- ---- what cell_at found

module _ (sep : ℕ) (twice : Bool) (l : List ℕ) (at : ℕ) where
  pub cell_found : {c : Cell} → CellIs sep twice l at (Some c) → CellAt sep twice l at c
  unfolding CellIs
  cell_found e = e

  pub cell_open : CellIs sep twice l at None → cut sep (seen twice (drop at l)) ≡ bad 22
  unfolding CellIs
  cell_open e = e

-- a cell's content
abbrev pub in_cell : Bool → List ℕ → Cell → List ℕ
in_cell twice l c = content_of c.quoted (seen twice (slice c.from c.to l))

pub seen_none : (twice : Bool) → seen twice [] ≡ []
unfolding seen singled pick
seen_none true = refl
seen_none false = refl

module _ {sep : ℕ} {twice : Bool} {l : List ℕ} {at : ℕ} {c : Cell} (k : CellAt sep twice l at c) where
  -- the last cell
  pub cell_last : length l ≤ c.next → cut sep (seen twice (drop at l)) ≡ good (in_cell twice l c ∷ [])
  unfolding cons_cell cells_after
  cell_last h = k.cells ∙ ap (λ m. cons_cell (in_cell twice l c) (cells_after sep m)) (ap (seen twice) (drop_of_length-le l h) ∙ seen_none twice)

  -- a cell, and those after the separator
  pub cell_next : (x q : ℕ) → seen twice (drop c.next l) ≡ x ∷ seen twice (drop q l) → cut sep (seen twice (drop at l)) ≡ cons_cell (in_cell twice l c) (cut sep (seen twice (drop q l)))
  unfolding cons_cell cells_after
  cell_next x q p = k.cells ∙ ap (λ m. cons_cell (in_cell twice l c) (cells_after sep m)) p

-- what `content` asks of a cell
abbrev pub InPart : List ℕ → Cell → Type 0
InPart l c = record { ordered : c.from ≤ c.to; inside : c.to ≤ length l }

pub in_part : {sep : ℕ} {twice : Bool} {l : List ℕ} {at : ℕ} {c : Cell} → CellAt sep twice l at c → InPart l c
in_part k = record { ordered = k.ordered; inside = omega (arith, k.before, k.inside) }

-- the byte at a place in a part that is read as it stands
pub plain_rest : (l : List ℕ) (p : ℕ) → p < length l → seen false (drop p l) ≡ get_or l p 0 ∷ seen false (drop (p + 1) l)
unfolding seen pick
plain_rest l p h = rw (add-one p) (drop-cons l p 0 h)

-- ---- look: the cells before a place, and what is known of them

-- cells in front of others
unfoldable pub before : List (List ℕ) → Result (List (List ℕ)) → Result (List (List ℕ))
before front (good cs) = good (front ++ cs)
before front (bad n) = bad n

pub record Looking (sep : ℕ) (twice : Bool) (l : List ℕ) (at : ℕ) (row : Row) : Type 0 where
  pub front : List (List ℕ)
  pub looked : Looked front row
  pub inside : at ≤ length l
  pub few : row.cells ≤ at
  pub same : cut sep (seen twice l) ≡ before front (cut sep (seen twice (drop at l)))

before_none : (m : Result (List (List ℕ))) → m ≡ before [] m
unfolding before
before_none (good cs) = refl
before_none (bad n) = refl

before_one : (front : List (List ℕ)) (c : List ℕ) (m : Result (List (List ℕ))) → before front (cons_cell c m) ≡ before (front ++ (c ∷ [])) m
unfolding before cons_cell
before_one front c (good cs) = ap good (sym (append_assoc front (c ∷ []) cs))
before_one front c (bad n) = refl

pub looking_first : (sep : ℕ) (twice : Bool) (l : List ℕ) → Looking sep twice l 0 (record { cells = 0; kept = 0; place = None })
unfolding place_as text_at drop_empty
looking_first sep twice l =
    record { front = []; looked = record { cells = refl; kept = refl; place = refl }; inside = omega arith; few = omega arith; same = before_none (cut sep (seen twice l)) }

module _ {sep : ℕ} {twice : Bool} {l : List ℕ} {at : ℕ} {row : Row} (g : Looking sep twice l at row) where
  pub looking_open : cut sep (seen twice (drop at l)) ≡ bad 22 → RowIs sep twice l None
  unfolding RowIs before
  looking_open e = g.same ∙ ap (before g.front) e

  module _ {c : Cell} (s : Row) (k : CellAt sep twice l at c) (w : Grown row (in_cell twice l c) s) where
    pub looking_last : length l ≤ c.next → RowIs sep twice l (Some s)
    unfolding RowIs before
    looking_last h = (g.front ++ (in_cell twice l c ∷ []), g.same ∙ ap (before g.front) (cell_last k h), looked_more g.looked w)

    pub looking_on : {q : ℕ} → Passed twice l c.next q → Looking sep twice l q s
    looking_on {q} p =
        let few = g.few in
        record {
          front = g.front ++ (in_cell twice l c ∷ []);
          looked = looked_more g.looked w;
          inside = p.inside;
          few = omega (arith, w.cells, k.after, k.ordered, k.before, p.later);
          same = g.same ∙ ap (before g.front) (cell_next k _ q p.rest) ∙ before_one g.front (in_cell twice l c) (cut sep (seen twice (drop q l)));
        }
