-- A line that one cell alone holds.
use mathlib.Core.Path.{◌≡◌, refl, sym, ap, ◌∙◌}
use Prim.Native.Nat.{ℕ, ◌+◌, ◌<◌, ◌≤◌}
use mathlib.Core.Bool.{true, false}
use mathlib.Core.List.{List, []}
use native.Mathlib.Omega.{arith}
use lib.ListN.{length, drop}
use Rattle.std.proofs.Common.{Option, Some, None}
use Rattle.event.specs.Choice.{pick}
use Rattle.midicsv.specs.Result.{Result, good, bad}
use Rattle.sheet_table.specs.Cut.{cut}
use Rattle.sheet_table.specs.Table.{is_empty, all_empty, is_remark, of_cut, line_by, cells_line, row_line, table_line}
use Rattle.sheet.specs.Code.Seen.{seen, slice}
use Rattle.sheet_table.specs.Code.Cells.{cons_cell}
use Rattle.sheet.specs.Code.Cell.{content_of, CellAt}
use Rattle.sheet.specs.Code.Row.{LoneIs}
use Rattle.sheet.specs.Code.Walk.{all_empty_in, LoneWithin}
use Rattle.sheet.specs.declared.Cell.{Cell}
use Rattle.sheet.proofs.WalkLaws.{in_cell, cell_last, cell_next, plain_rest}

-- ---- are_empty: the cells from a place on

empty_cons : (c : List ℕ) (m : Result (List (List ℕ))) → is_empty c ≡ true → all_empty_in (cons_cell c m) ≡ all_empty_in m
unfolding all_empty_in cons_cell all_empty
empty_cons c (good cs) e = rw e
empty_cons c (bad n) e = refl

full_cons : (c : List ℕ) (m : Result (List (List ℕ))) → is_empty c ≡ false → all_empty_in (cons_cell c m) ≡ false
unfolding all_empty_in cons_cell all_empty
full_cons c (good cs) e = rw e
full_cons c (bad n) e = refl

-- those before the place at are empty
pub record Emptied (sep : ℕ) (l : List ℕ) (from at : ℕ) : Type 0 where
  pub inside : at ≤ length l
  pub same : all_empty_in (cut sep (drop from l)) ≡ all_empty_in (cut sep (seen false (drop at l)))

pub emptied_first : (sep : ℕ) (l : List ℕ) (from : ℕ) → from ≤ length l → Emptied sep l from from
unfolding seen pick
emptied_first sep l from h = record { inside = h; same = refl }

module _ {sep : ℕ} {l : List ℕ} {from at : ℕ} (g : Emptied sep l from at) where
  pub emptied_open : cut sep (seen false (drop at l)) ≡ bad 22 → false ≡ all_empty_in (cut sep (drop from l))
  unfolding all_empty_in
  emptied_open e = sym (g.same ∙ ap all_empty_in e)

  module _ {c : Cell} (k : CellAt sep false l at c) where
    pub emptied_not : is_empty (in_cell false l c) ≡ false → false ≡ all_empty_in (cut sep (drop from l))
    emptied_not e = sym (g.same ∙ ap all_empty_in k.cells ∙ full_cons (in_cell false l c) _ e)

    pub emptied_last : is_empty (in_cell false l c) ≡ true → length l ≤ c.next → true ≡ all_empty_in (cut sep (drop from l))
    unfolding all_empty_in all_empty cons_cell
    emptied_last e h = sym (g.same ∙ ap all_empty_in (cell_last k h) ∙ empty_cons (in_cell false l c) (good []) e)

    pub emptied_on : is_empty (in_cell false l c) ≡ true → c.next < length l → Emptied sep l from (c.next + 1)
    emptied_on e h =
        record {
          inside = omega arith;
          same = g.same ∙ ap all_empty_in (cell_next k _ (c.next + 1) (plain_rest l c.next h)) ∙ empty_cons (in_cell false l c) _ e;
        }

-- ---- lone_cell

-- what is answered of it
abbrev pub LoneAt : ℕ → List ℕ → Option Cell → Type 0
LoneAt sep l r = record { fact_1 : LoneIs sep l r; fact_2 : LoneWithin l r }

module _ (sep : ℕ) (l : List ℕ) where
  no_lone : LoneIs sep l None → LoneAt sep l None
  unfolding LoneWithin
  no_lone e = record { fact_1 = e; fact_2 = tt }

  pub remark_several : is_remark sep l ≡ true → LoneAt sep l None
  unfolding LoneIs table_line line_by pick
  remark_several e = no_lone (rw e)

  pub open_several : cut sep (seen false l) ≡ bad 22 → LoneAt sep l None
  unfolding LoneIs table_line line_by of_cut seen pick
  open_several e = no_lone (ap (λ m. pick (is_remark sep l) l m) (ap (of_cut cells_line) e ∙ sym (ap (of_cut row_line) e)))

  -- the line by its first cell and the others
  of_cells : (x : List ℕ) (m : Result (List (List ℕ))) → all_empty_in m ≡ false → of_cut cells_line (cons_cell x m) ≡ of_cut row_line (cons_cell x m)
  unfolding all_empty_in of_cut cons_cell cells_line pick
  of_cells x (good cs) e = rw e
  of_cells x (bad n) e = refl

  of_lone : (x : List ℕ) (m : Result (List (List ℕ))) → all_empty_in m ≡ true → of_cut cells_line (cons_cell x m) ≡ line_by row_line 44 x
  unfolding all_empty_in of_cut cons_cell cells_line pick
  of_lone x (good cs) e = rw e
  of_lone x (bad n) e = let z : ◌≡◌ {A = ℕ} 0 1 = cc in absurd (omega arith)

  module _ {c : Cell} (k : CellAt sep false l 0 c) where
    cells_here : (h : c.next < length l) → cut sep l ≡ cons_cell (in_cell false l c) (cut sep (drop (c.next + 1) l))
    unfolding seen pick
    cells_here h = cell_next k _ (c.next + 1) (plain_rest l c.next h)

    pub cells_several : c.next < length l → all_empty_in (cut sep (drop (c.next + 1) l)) ≡ false → LoneAt sep l None
    unfolding LoneIs table_line line_by
    cells_several h e = no_lone (ap (λ m. pick (is_remark sep l) l m) (rw (cells_here h) (of_cells (in_cell false l c) (cut sep (drop (c.next + 1) l)) e)))

    -- the others are empty, or there are none
    lone_is : (m : Result (List (List ℕ))) → is_remark sep l ≡ false → cut sep l ≡ cons_cell (in_cell false l c) m → all_empty_in m ≡ true → LoneAt sep l (Some c)
    unfolding LoneIs LoneWithin table_line line_by seen content_of pick
    lone_is m n h e =
        record { fact_1 = rw n (ap (of_cut cells_line) h ∙ of_lone (in_cell false l c) m e); fact_2 = (k.ordered, omega (arith, k.before, k.inside)) }

    pub lone_among : is_remark sep l ≡ false → c.next < length l → all_empty_in (cut sep (drop (c.next + 1) l)) ≡ true → LoneAt sep l (Some c)
    lone_among n h e = lone_is (cut sep (drop (c.next + 1) l)) n (cells_here h) e

    pub lone_last : is_remark sep l ≡ false → length l ≤ c.next → LoneAt sep l (Some c)
    unfolding seen pick cons_cell all_empty_in all_empty
    lone_last n h = lone_is (good []) n (cell_last k h) refl

-- ---- put_line

module _ (sep : ℕ) (l : List ℕ) where
  pub several_line : LoneIs sep l None → line_by row_line sep (seen false l) ≡ table_line sep l
  unfolding LoneIs seen pick
  several_line e = sym e

  pub lone_line : (c : Cell) → LoneIs sep l (Some c) → line_by row_line 44 (seen c.quoted (slice c.from c.to l)) ≡ table_line sep l
  unfolding LoneIs
  lone_line c e = sym e

pub lone_within : (l : List ℕ) (c : Cell) → LoneWithin l (Some c) → (c.from ≤ c.to) × (c.to ≤ length l)
unfolding LoneWithin
lone_within l c w = w
