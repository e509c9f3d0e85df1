-- The separator of a saved table is found in its first row, the Header's.
use mathlib.Core.Path.{◌≡◌, refl, ap₂, ◌∙◌}
use Prim.Native.Nat.{ℕ, ◌-◌, ◌≤◌, ◌<◌}
use mathlib.Core.Bool.{Bool, true, false, false≢true, ◌||◌}
use mathlib.Core.List.{List, [], ◌∷◌, ◌++◌}
use mathlib.Core.Logic.{◌⊎◌, inl, inr}
use native.Mathlib.Omega.{arith}
use lib.ListN.{length}
use lib.Dec.{ltb, eqb}
use borrow.Author.Tests.{ne_eqb, eqb-true}
use Rattle.event.specs.Choice.{pick}
use Rattle.event.proofs.ChoiceLaws.{by_test, pick_true, pick_false}
use Rattle.smf.specs.Division.{bits}
use Rattle.smf.specs.Piece.{Piece, LawfulPiece}
use Rattle.smf.proofs.DivisionLaws.{division_fits}
use Rattle.midicsv.specs.Field.{decimal, Field}
use Rattle.midicsv.specs.Table.{header, spelled, division, shape}
use Rattle.midicsv.specs.Record.{signed_field, column_field, tail_fields, fields_of, record_fields}
use Rattle.midicsv.specs.Text.{header_record}
use Rattle.midicsv.proofs.AllLaws.{All, Digit}
use Rattle.midicsv.proofs.DecimalReadLaws.{decimal_digits}
use Rattle.sheet_table.specs.Cut.{has}
use Rattle.sheet_table.specs.Table.{doubled, requote, sep_in}
use Rattle.sheet_table.specs.Ways.{Separator, comma, semicolon, tab, sep_byte, cell_of, saved_cell, saved_further, saved_row, wrapped_row}
use Rattle.sheet_table.proofs.RowKeptLaws.{has_later}
use Rattle.sheet_table.proofs.AnyKeptLaws.{comma_sep}
use Rattle.sheet_table.proofs.SavedRowLaws.{parts}
use Rattle.sheet_table.proofs.SavedBytesLaws.{InCells, row_all}

-- ---- a row of two cells or more has its separator

row_has : (s : Separator) (qs xs : List Bool) (f g : Field) (fs : List Field) → has (sep_byte s) (saved_row (sep_byte s) qs xs (f ∷ g ∷ fs)) ≡ true
unfolding saved_row saved_further
row_has s [] xs f g fs = has_later (sep_byte s) (saved_cell (sep_byte s) false (cell_of f)) _ (parts s).same
row_has s (q ∷ []) xs f g fs = has_later (sep_byte s) (saved_cell (sep_byte s) q (cell_of f)) _ (parts s).same
row_has s (q ∷ p ∷ qs) xs f g fs = has_later (sep_byte s) (saved_cell (sep_byte s) q (cell_of f)) _ (parts s).same

-- ---- the Header's cells are digits, letters and a minus

has_none : (k : ℕ) (l : List ℕ) → All (λ x. eqb x k ≡ false) l → has k l ≡ false
unfolding has
has_none k [] a = refl
has_none k (x ∷ l) a = ap₂ ◌||◌ a.0 (has_none k l a.1)

module _ (k : ℕ) (digit : (k < 48) ⊎ (57 < k)) (sign : eqb 45 k ≡ false) (letters : All (λ x. eqb x k ≡ false) (spelled header)) where
  digit_other : (x : ℕ) → Digit x → (k < 48) ⊎ (57 < k) → eqb x k ≡ false
  digit_other x d (inl h) = ne_eqb x k (λ e. omega arith)
  digit_other x d (inr h) = ne_eqb x k (λ e. omega arith)

  digits_other : (c : List ℕ) → All Digit c → All (λ x. eqb x k ≡ false) c
  digits_other [] a = tt
  digits_other (x ∷ c) a = (digit_other x a.0 digit, digits_other c a.1)

  number_other : (n : ℕ) → n ≤ 4294967295 → All (λ x. eqb x k ≡ false) (decimal n)
  number_other n h = digits_other (decimal n) (decimal_digits n h).1

  division_other : (n : ℕ) → n < 65536 → All (λ x. eqb x k ≡ false) (cell_of (column_field division n))
  unfolding column_field signed_field cell_of pick
  division_other n h =
      by_test (ltb n 32768) (λ t. rw t (number_other n (omega arith))) (λ t. rw t (sign, number_other (65536 - n) (omega arith)))

  header_other : (p : Piece) → LawfulPiece p → InCells (λ x. eqb x k ≡ false) (record_fields (header_record p))
  unfolding header_record shape fields_of column_field tail_fields cell_of InCells
  header_other p l =
      (number_other 0 (omega arith), (number_other 0 (omega arith), (letters, (number_other p.format (omega (arith, l.format)), (number_other (length p.tracks) (omega (arith, l.few)), (division_other (bits p.division) (division_fits p.division l.division), tt))))))

  -- so the row has no other separator
  no_other : (sep : ℕ) (qs xs : List Bool) (p : Piece) → LawfulPiece p → eqb 34 k ≡ false → eqb sep k ≡ false → has k (saved_row sep qs xs (record_fields (header_record p))) ≡ false
  no_other sep qs xs p l q e = has_none k _ (row_all (λ x. eqb x k ≡ false) q sep e qs xs (record_fields (header_record p)) (header_other p l))

no_comma : (sep : ℕ) (qs xs : List Bool) (p : Piece) → LawfulPiece p → eqb sep 44 ≡ false → has 44 (saved_row sep qs xs (record_fields (header_record p))) ≡ false
unfolding spelled
no_comma sep qs xs p l e = no_other 44 (inl (omega arith)) refl (refl, (refl, (refl, (refl, (refl, (refl, tt)))))) sep qs xs p l refl e

no_semicolon : (sep : ℕ) (qs xs : List Bool) (p : Piece) → LawfulPiece p → eqb sep 59 ≡ false → has 59 (saved_row sep qs xs (record_fields (header_record p))) ≡ false
unfolding spelled
no_semicolon sep qs xs p l e = no_other 59 (inr (omega arith)) refl (refl, (refl, (refl, (refl, (refl, (refl, tt)))))) sep qs xs p l refl e

pub cells_sep : (s : Separator) (qs xs : List Bool) (p : Piece) → LawfulPiece p → sep_in (saved_row (sep_byte s) qs xs (record_fields (header_record p))) ≡ sep_byte s
unfolding sep_in sep_byte
cells_sep comma qs xs p l = pick_true _ _ (row_has comma qs xs _ _ _)
cells_sep semicolon qs xs p l = pick_false _ _ (no_comma 59 qs xs p l refl) ∙ pick_true _ _ (row_has semicolon qs xs _ _ _)
cells_sep tab qs xs p l = pick_false _ _ (no_comma 9 qs xs p l refl) ∙ pick_false _ _ (no_semicolon 9 qs xs p l refl) ∙ pick_true _ _ (row_has tab qs xs _ _ _)

-- ---- a line in one cell has its commas

doubled_has : (l t : List ℕ) → has 44 l ≡ true → has 44 (doubled l ++ t) ≡ true
unfolding has doubled pick
doubled_has [] t h = absurd (false≢true h)
doubled_has (x ∷ l) t h =
    by_test (eqb x 34)
    (λ e. let z : has 44 (34 ∷ l) ≡ true = rw (eqb-true x 34 e) at h in rw e (doubled_has l t z))
    (λ e. rw e (or_has (eqb x 44) (has 44 l) (has 44 (doubled l ++ t)) h (λ z. doubled_has l t z)))
  where
    or_has : (a b c : Bool) → (a || b) ≡ true → (b ≡ true → c ≡ true) → (a || c) ≡ true
    or_has true b c e f = refl
    or_has false b c e f = f e

requote_has : (l : List ℕ) → has 44 l ≡ true → has 44 (requote l) ≡ true
unfolding requote has
requote_has l h = doubled_has l (34 ∷ []) h

pub wrapped_sep : (q : Bool) (l : List ℕ) → has 44 l ≡ true → sep_in (wrapped_row q l) ≡ 44
unfolding wrapped_row pick
wrapped_sep q l h = by_test (q || has 34 l) (λ e. rw e (comma_sep (requote l) (requote_has l h))) (λ e. rw e (comma_sep l h))
