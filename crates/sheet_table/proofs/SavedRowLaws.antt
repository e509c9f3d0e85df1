-- A row of cells, whichever way it is saved, is cut into the cells of its fields, and its line is read as its record.
use mathlib.Core.Path.{◌≡◌, refl, ap, ◌∙◌}
use Prim.Native.Nat.{ℕ, zero, suc, ◌+◌, ◌≤◌, ◌<◌}
use mathlib.Core.Bool.{Bool, false, ◌||◌}
use mathlib.Core.List.{List, [], ◌∷◌, ◌++◌}
use native.Mathlib.Omega.{arith}
use lib.ListN.{length}
use Rattle.event.specs.Choice.{pick}
use Rattle.event.proofs.ChoiceLaws.{by_test, pick_true, pick_false}
use Rattle.midicsv.specs.Field.{Field, name}
use Rattle.midicsv.specs.Table.{spelled, Column, range, key, mode, free_type, division, Tail, none, one_text, sized, shape}
use Rattle.midicsv.specs.Record.{Record, tail_fields, fields_of, record_fields}
use Rattle.midicsv.specs.Result.{good}
use Rattle.midicsv.specs.ReadField.{skip}
use Rattle.midicsv.specs.ReadRecord.{read_line}
use Rattle.midicsv.proofs.RowLaws.{InColumns}
use Rattle.midicsv.proofs.FieldReadLaws.{AllGood}
use Rattle.midicsv.proofs.RecordReadLaws.{Sound, record_read, fields_good}
use Rattle.sheet_table.specs.Cut.{has, is_none, cut}
use Rattle.sheet_table.specs.Table.{is_empty, keep_before, drop_empty, requote, plain_cell, plain_cells, fields_to, TextPlace, nowhere, after, text_from, text_at, row_fields, joined, row_line, of_cut, is_remark, line_by, cells_line, table_line}
use Rattle.sheet_table.specs.Ways.{Separator, comma, semicolon, tab, sep_byte, cell_of, saved_cell, saved_extra, saved_further, saved_row}
use Rattle.sheet_table.specs.Code.Cells.{cells_after, cons_cell}
use Rattle.sheet_table.proofs.CutLaws.{Parts, parts_comma, parts_semicolon, parts_tab, Follows, or_left, or_right, requoted_cut, Clean, clean_cut}
use Rattle.sheet_table.proofs.FieldCellLaws.{is_text_lem}
use Rattle.sheet_table.proofs.RowKeptLaws.{HoldAll, to_bare}
use Rattle.sheet_table.proofs.RecordKeptLaws.{text_place_lem, name_again, not_alone, record_back, fields_back}
use Rattle.sheet_table.proofs.SpelledCellLaws.{field_clean, cells_of, fields_hold}

pub parts : (s : Separator) → Parts (sep_byte s)
unfolding sep_byte
parts comma = parts_comma
parts semicolon = parts_semicolon
parts tab = parts_tab

-- ---- the cells of a saved row

pub cell_cut : (sep : ℕ) (q : Bool) (c t : List ℕ) → Parts sep → Clean sep c → Follows sep t → cut sep (saved_cell sep q c ++ t) ≡ cons_cell c (cells_after sep t)
unfolding saved_cell
cell_cut sep q c t s k h =
    by_test (q || (has sep c || has 34 c))
    (λ e. ap (λ z. cut sep (z ++ t)) (pick_true _ _ e) ∙ requoted_cut sep c t s h)
    (λ e. ap (λ z. cut sep (z ++ t)) (pick_false _ _ e) ∙ clean_cut sep c t s k (or_left (has sep c) (has 34 c) (or_right q (has sep c || has 34 c) e)) h)

-- an empty cell for each
unfoldable pub empties : List Bool → List (List ℕ)
empties [] = []
empties (x ∷ xs) = [] ∷ empties xs

pub follows_extra : (sep : ℕ) (xs : List Bool) → Follows sep (saved_extra sep xs)
unfolding saved_extra Follows
follows_extra sep [] = tt
follows_extra sep (x ∷ xs) = refl

pub extra_cut : (sep : ℕ) (xs : List Bool) → Parts sep → cells_after sep (saved_extra sep xs) ≡ good (empties xs)
unfolding saved_extra cells_after empties cons_cell Clean
extra_cut sep [] s = refl
extra_cut sep (x ∷ xs) s = cell_cut sep x [] (saved_extra sep xs) s tt (follows_extra sep xs) ∙ ap (cons_cell []) (extra_cut sep xs s)

follows_further : (sep : ℕ) (qs xs : List Bool) (fs : List Field) → Follows sep (saved_further sep qs xs fs)
unfolding saved_further Follows
follows_further sep qs xs [] = follows_extra sep xs
follows_further sep [] xs (f ∷ fs) = refl
follows_further sep (q ∷ qs) xs (f ∷ fs) = refl

-- the cell of f before such cells
one_more : (sep : ℕ) (q : Bool) (qs xs : List Bool) (f : Field) (fs : List Field) (cs : List (List ℕ)) → Parts sep → Clean sep (cell_of f)
    → cells_after sep (saved_further sep qs xs fs) ≡ good cs → cut sep (saved_cell sep q (cell_of f) ++ saved_further sep qs xs fs) ≡ good (cell_of f ∷ cs)
unfolding cons_cell
one_more sep q qs xs f fs cs s k e = cell_cut sep q (cell_of f) (saved_further sep qs xs fs) s k (follows_further sep qs xs fs) ∙ ap (cons_cell (cell_of f)) e

further_cut : (sep : ℕ) (qs xs : List Bool) (fs : List Field) → Parts sep → AllGood fs → cells_after sep (saved_further sep qs xs fs) ≡ good (cells_of fs ++ empties xs)
unfolding saved_further cells_after cells_of
further_cut sep qs xs [] s g = extra_cut sep xs s
further_cut sep [] xs (f ∷ fs) s g = one_more sep false [] xs f fs _ s (field_clean sep f g.0) (further_cut sep [] xs fs s g.1)
further_cut sep (q ∷ qs) xs (f ∷ fs) s g = one_more sep q qs xs f fs _ s (field_clean sep f g.0) (further_cut sep qs xs fs s g.1)

row_cut : (sep : ℕ) (qs xs : List Bool) (f : Field) (fs : List Field) → Parts sep → AllGood (f ∷ fs) → cut sep (saved_row sep qs xs (f ∷ fs)) ≡ good (cells_of (f ∷ fs) ++ empties xs)
unfolding saved_row cells_of
row_cut sep [] xs f fs s g = one_more sep false [] xs f fs _ s (field_clean sep f g.0) (further_cut sep [] xs fs s g.1)
row_cut sep (q ∷ qs) xs f fs s g = one_more sep q qs xs f fs _ s (field_clean sep f g.0) (further_cut sep qs xs fs s g.1)

-- ---- empty cells after the last change nothing

drop_empties : (xs : List Bool) → drop_empty (empties xs) ≡ []
unfolding drop_empty empties keep_before is_empty is_none skip pick
drop_empties [] = refl
drop_empties (x ∷ xs) = ap (keep_before []) (drop_empties xs)

drop_extra : (cs : List (List ℕ)) (xs : List Bool) → drop_empty (cs ++ empties xs) ≡ drop_empty cs
unfolding drop_empty
drop_extra [] xs = drop_empties xs
drop_extra (c ∷ cs) xs = ap (keep_before c) (drop_extra cs xs)

to_extra : (k : ℕ) (cs : List (List ℕ)) (xs : List Bool) → k < length cs → fields_to k (cs ++ empties xs) ≡ fields_to k cs
unfolding fields_to
to_extra zero [] xs h = absurd (omega arith)
to_extra (suc k) [] xs h = absurd (omega arith)
to_extra zero (c ∷ cs) xs h = ap (λ z. requote c ∷ plain_cells z) (drop_extra cs xs)
to_extra (suc k) (c ∷ cs) xs h = ap (λ z. plain_cell c ∷ z) (to_extra k cs xs (omega arith))

-- the text is one of n cells
unfoldable Among : ℕ → TextPlace → Type 0
Among n nowhere = Unit {0}
Among n (after k) = k < n

fields_extra : (w : TextPlace) (cs : List (List ℕ)) (xs : List Bool) → Among (length cs) w → row_fields w (cs ++ empties xs) ≡ row_fields w cs
unfolding row_fields Among
fields_extra nowhere cs xs h = ap plain_cells (drop_extra cs xs)
fields_extra (after k) cs xs h = to_extra k cs xs h

row_extra : (x y z : List ℕ) (cs : List (List ℕ)) (xs : List Bool) → is_empty y ≡ false → Among (length (x ∷ y ∷ z ∷ cs)) (text_at (x ∷ y ∷ z ∷ cs))
    → cells_line (x ∷ y ∷ z ∷ (cs ++ empties xs)) ≡ row_line (x ∷ y ∷ z ∷ cs)
unfolding row_line text_at
row_extra x y z cs xs e h = not_alone x y (z ∷ (cs ++ empties xs)) e ∙ ap joined (fields_extra (text_at (x ∷ y ∷ z ∷ cs)) (x ∷ y ∷ z ∷ cs) xs h)

-- ---- the text of a record is one of its cells

place_among : (n i : ℕ) (cs : List Column) (t : Tail) (ns d : List ℕ) → InColumns cs ns → i + length (fields_of cs t ns d) ≤ n → Among n (text_from i cs t)
unfolding InColumns fields_of tail_fields text_from Among
place_among n i [] none ns d h k = tt
place_among n i [] one_text ns d h k = omega arith
place_among n i [] sized ns d h k = tt
place_among n i (c ∷ cs) t [] d h k = absurd h
place_among n i (range lo hi ∷ cs) t (m ∷ ns) d h k = place_among n (suc i) cs t ns d h.1 (omega arith)
place_among n i (key ∷ cs) t (m ∷ ns) d h k = place_among n (suc i) cs t ns d h.1 (omega arith)
place_among n i (mode ∷ cs) t (m ∷ ns) d h k = omega arith
place_among n i (free_type ∷ cs) t (m ∷ ns) d h k = place_among n (suc i) cs t ns d h.1 (omega arith)
place_among n i (division ∷ cs) t (m ∷ ns) d h k = place_among n (suc i) cs t ns d h.1 (omega arith)

cells_count : (fs : List Field) → length (cells_of fs) ≡ length fs
unfolding cells_of
cells_count [] = refl
cells_count (f ∷ fs) = ap suc (cells_count fs)

-- ---- the line of a saved row

module _ (r : Record) (s : Sound r) (xs : List Bool) where
  holds : HoldAll (cells_of (record_fields r)) (record_fields r)
  holds = fields_hold (record_fields r) (fields_good r s)

  among : Among (length (cells_of (record_fields r))) (text_at (cells_of (record_fields r)))
  unfolding cells_of is_text_lem
  among =
      let place : text_at (cells_of (record_fields r)) ≡ text_from 3 (shape r.name).columns (shape r.name).tail =
      text_place_lem _ _ _ _ r.name (name_again _ (name (spelled r.name)) r.name s.known.2 (to_bare _ _ refl holds.1.1.0)) in
      rw place
      (place_among _ 3 (shape r.name).columns (shape r.name).tail r.values.columns r.values.body s.columns (omega (arith, cells_count (record_fields r))))

  cells_read : read_line (cells_line (cells_of (record_fields r) ++ empties xs)) ≡ good r
  unfolding cells_of is_text_lem
  cells_read =
      let e = record_read r s in
      ap read_line (row_extra _ _ _ _ xs (to_bare _ _ refl holds.1.0).some among)
      ∙ fields_back (cells_of (record_fields r)) (record_fields r) r e (record_back (cells_of (record_fields r)) (record_fields r) r e holds)

pub row_read : (sep : ℕ) (qs xs : List Bool) (r : Record) → Parts sep → Sound r → is_remark sep (saved_row sep qs xs (record_fields r)) ≡ false
    → read_line (table_line sep (saved_row sep qs xs (record_fields r))) ≡ good r
unfolding table_line line_by of_cut
row_read sep qs xs r p s n = ap read_line (pick_false _ _ n ∙ ap (of_cut cells_line) (row_cut sep qs xs _ _ p (fields_good r s))) ∙ cells_read r s xs
