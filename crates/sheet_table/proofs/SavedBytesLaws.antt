-- The bytes of a saved row: none of them ends a line, and a digit or a quote begins it.
use mathlib.Core.Path.{◌≡◌, refl, ap, ap₂, ◌∙◌}
use Prim.Native.Nat.{ℕ, ◌≤◌}
use mathlib.Core.Bool.{Bool, true, false, ◌&&◌, ◌||◌, not}
use mathlib.Core.List.{List, [], ◌∷◌, ◌++◌}
use native.Mathlib.Omega.{arith}
use lib.ListN.{length}
use lib.Dec.{eqb}
use borrow.Author.Tests.{ne_eqb}
use Rattle.event.specs.Choice.{pick}
use Rattle.event.proofs.ChoiceLaws.{by_test, pick_false}
use Rattle.midicsv.specs.Field.{decimal, Field}
use Rattle.midicsv.specs.Show.{as_sheet, show, line_of}
use Rattle.midicsv.specs.Record.{Record, record_fields, record_line}
use Rattle.midicsv.specs.Lines.{is_comment, passed_over}
use Rattle.midicsv.proofs.AllLaws.{All, all_append, Printable, Digit}
use Rattle.midicsv.proofs.DecimalReadLaws.{decimal_digits}
use Rattle.midicsv.proofs.FieldReadLaws.{AllGood, skip_none}
use Rattle.midicsv.proofs.RecordReadLaws.{Sound}
use Rattle.sheet_table.specs.Cut.{has, skip_beside, begins}
use Rattle.sheet_table.specs.Table.{requote, is_remark}
use Rattle.sheet_table.specs.Ways.{cell_of, saved_cell, saved_extra, saved_further, saved_row, empty_row, wrapped_row}
use Rattle.sheet_table.proofs.TableLinesLaws.{list_pick, requote_in}
use Rattle.sheet_table.proofs.SpelledCellLaws.{no_blank_lem, field_printable}

-- ---- a property of the bytes of the cells, of a quote and of the separator holds of the bytes of the row

unfoldable pub InCells : (ℕ → Type 0) → List Field → Type 0
InCells P [] = Unit {0}
InCells P (f ∷ fs) = All P (cell_of f) × InCells P fs

module _ (P : ℕ → Type 0) (quote : P 34) (sep : ℕ) (separates : P sep) where
  cell_all : (q : Bool) (c : List ℕ) → All P c → All P (saved_cell sep q c)
  unfolding saved_cell
  cell_all q c a = list_pick P _ _ _ (requote_in P quote c a) a

  extra_all : (xs : List Bool) → All P (saved_extra sep xs)
  unfolding saved_extra
  extra_all [] = tt
  extra_all (x ∷ xs) = (separates, all_append P (saved_cell sep x []) (saved_extra sep xs) (cell_all x [] tt) (extra_all xs))

  further_all : (qs xs : List Bool) (fs : List Field) → InCells P fs → All P (saved_further sep qs xs fs)
  unfolding saved_further InCells
  further_all qs xs [] a = extra_all xs
  further_all [] xs (f ∷ fs) a = (separates, all_append P (saved_cell sep false (cell_of f)) (saved_further sep [] xs fs) (cell_all false (cell_of f) a.0) (further_all [] xs fs a.1))
  further_all (q ∷ qs) xs (f ∷ fs) a = (separates, all_append P (saved_cell sep q (cell_of f)) (saved_further sep qs xs fs) (cell_all q (cell_of f) a.0) (further_all qs xs fs a.1))

  pub row_all : (qs xs : List Bool) (fs : List Field) → InCells P fs → All P (saved_row sep qs xs fs)
  unfolding saved_row InCells
  row_all qs xs [] a = tt
  row_all [] xs (f ∷ fs) a = all_append P (saved_cell sep false (cell_of f)) (saved_further sep [] xs fs) (cell_all false (cell_of f) a.0) (further_all [] xs fs a.1)
  row_all (q ∷ qs) xs (f ∷ fs) a = all_append P (saved_cell sep q (cell_of f)) (saved_further sep qs xs fs) (cell_all q (cell_of f) a.0) (further_all qs xs fs a.1)

  pub empty_all : (qs : List Bool) → All P (empty_row sep qs)
  unfolding empty_row
  empty_all [] = tt
  empty_all (q ∷ qs) = all_append P (saved_cell sep q []) (saved_extra sep qs) (cell_all q [] tt) (extra_all qs)

-- ---- no LF and no CR

abbrev pub Lined : ℕ → Type 0
Lined c = (eqb c 10 ≡ false) × (eqb c 13 ≡ false)

pub printable_lined : (l : List ℕ) → All Printable l → All Lined l
printable_lined [] a = tt
printable_lined (c ∷ l) a = ((ne_eqb c 10 (λ e. omega arith), ne_eqb c 13 (λ e. omega arith)), printable_lined l a.1)

pub fields_lined : (fs : List Field) → AllGood fs → InCells Lined fs
unfolding InCells
fields_lined [] g = tt
fields_lined (f ∷ fs) g = (printable_lined (cell_of f) (field_printable f g.0), fields_lined fs g.1)

-- ---- a digit or a quote begins a row

unfoldable pub Opens : List ℕ → Type 0
Opens [] = ⊥
Opens (x ∷ l) = (34 ≤ x) × (x ≤ 57) × (eqb x 35 ≡ false)

digits_open : (c t : List ℕ) → (1 ≤ length c) × All Digit c → Opens (c ++ t)
unfolding Opens
digits_open [] t h = absurd (omega arith)
digits_open (x ∷ c) t h = (omega (arith, h.1.0), omega (arith, h.1.0), ne_eqb x 35 (λ e. omega (arith, h.1.0)))

quote_opens : (l : List ℕ) → Opens (34 ∷ l)
unfolding Opens
quote_opens l = (omega arith, omega arith, refl)

pub requote_opens : (c : List ℕ) → Opens (requote c)
unfolding requote
requote_opens c = quote_opens _

choice_opens : (b : Bool) (x y t : List ℕ) → Opens (x ++ t) → Opens (y ++ t) → Opens (pick b x y ++ t)
unfolding pick
choice_opens true x y t p q = p
choice_opens false x y t p q = q

cell_opens : (sep : ℕ) (q : Bool) (n : ℕ) (t : List ℕ) → n ≤ 4294967295 → Opens (saved_cell sep q (decimal n) ++ t)
unfolding saved_cell requote
cell_opens sep q n t h = choice_opens _ _ _ t (quote_opens _) (digits_open (decimal n) t (decimal_digits n h))

pub row_opens : (sep : ℕ) (qs xs : List Bool) (r : Record) → Sound r → Opens (saved_row sep qs xs (record_fields r))
unfolding saved_row cell_of
row_opens sep [] xs r s = cell_opens sep false r.track _ (omega (arith, s.track))
row_opens sep (q ∷ qs) xs r s = cell_opens sep q r.track _ (omega (arith, s.track))

line_opens : (r : Record) → Sound r → Opens (record_line as_sheet r)
unfolding record_line line_of show
line_opens r s = digits_open (decimal r.track) _ (decimal_digits r.track (omega (arith, s.track)))

pub wrapped_opens : (q : Bool) (r : Record) → Sound r → Opens (wrapped_row q (record_line as_sheet r))
unfolding wrapped_row pick
wrapped_opens q r s = by_test (q || has 34 (record_line as_sheet r)) (λ e. rw e (requote_opens (record_line as_sheet r))) (λ e. rw e (line_opens r s))

-- ---- such a row is no remark

below : (x : ℕ) → x ≤ 57 → eqb x 59 ≡ false
below x h = ne_eqb x 59 (λ e. omega arith)

pub opens_remark : (sep : ℕ) (l : List ℕ) → Opens l → is_remark sep l ≡ false
unfolding Opens is_remark skip_beside begins
opens_remark sep [] h = absurd h
opens_remark sep (x ∷ l) h =
    let e : skip_beside sep (x ∷ l) ≡ x ∷ l = pick_false _ _ (no_blank_lem sep x (omega (arith, h.0))) in
    ap₂ ◌||◌ (ap (begins 35) e ∙ h.2) (ap (λ z. z && not (eqb sep 59)) (ap (begins 59) e ∙ below x h.1))

pub opens_kept : (l : List ℕ) → Opens l → passed_over l ≡ false
unfolding Opens passed_over is_comment
opens_kept [] h = absurd h
opens_kept (x ∷ l) h = ap is_comment (skip_none x l (omega (arith, h.0))) ∙ ap₂ ◌||◌ h.2 (below x h.1)
