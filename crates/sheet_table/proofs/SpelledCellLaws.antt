-- The cell of a field that is read back: how it begins, what its bytes are, and that it holds the field.
use mathlib.Core.Path.{◌≡◌, refl, sym, ap, ap₂, ◌∙◌}
use Prim.Native.Nat.{ℕ, ◌+◌, ◌/◌, ◌%◌, ◌≤◌}
use mathlib.Core.Bool.{Bool, true, false, ◌&&◌, ◌||◌, not}
use mathlib.Core.List.{List, [], ◌∷◌, ◌++◌, append-nil}
use native.Mathlib.Omega.{arith}
use lib.ListN.{length}
use lib.Dec.{leb, eqb}
use borrow.Author.Tests.{ne_eqb}
use Rattle.event.specs.Choice.{pick}
use Rattle.event.proofs.ChoiceLaws.{by_test, pick_false, and_both}
use Rattle.midicsv.specs.Field.{decimal, Field, num, minus, name, quoted}
use Rattle.midicsv.specs.Spell.{octal, or_octal, stands_inside, stands_last, is_truth, spell_rest, spell_short, octal_all, spell_text, longest}
use Rattle.midicsv.specs.Show.{as_sheet, spell_in, quote, show}
use Rattle.midicsv.specs.ReadField.{is_letter, read_field}
use Rattle.midicsv.proofs.AllLaws.{All, all_append, Printable, Digit}
use Rattle.midicsv.proofs.DecimalReadLaws.{decimal_digits}
use Rattle.midicsv.proofs.SpellLaws.{Stands, letter_stands, last_stands, inside_stands, spell_printable}
use Rattle.midicsv.proofs.FieldReadLaws.{all_letters, Good, AllGood, letter_range, show_read, show_printable}
use Rattle.sheet_table.specs.Cut.{blank_beside}
use Rattle.sheet_table.specs.Table.{doubled, requote}
use Rattle.sheet_table.specs.Ways.{cell_of}
use Rattle.sheet_table.proofs.CutLaws.{Clean}
use Rattle.sheet_table.proofs.FieldCellLaws.{Reads, is_text_lem, Holds, in_quotes, field_cell}
use Rattle.sheet_table.proofs.RowKeptLaws.{HoldAll}

-- ---- a spelled text has no quote

abbrev NoQuotes : List ℕ → Type 0
NoQuotes c = All (λ x. eqb x 34 ≡ false) c

above : (x : ℕ) → 35 ≤ x → eqb x 34 ≡ false
above x h = ne_eqb x 34 (λ e. omega arith)

octal_quotes : (c : ℕ) → NoQuotes (octal c)
unfolding octal
octal_quotes c = (refl, (above (48 + c / 64) (omega arith), (above (48 + c / 8 % 8) (omega arith), (above (48 + c % 8) (omega arith), tt))))

byte_quotes : (b : Bool) (c : ℕ) → (b ≡ true → Stands c) → NoQuotes (or_octal b c)
unfolding or_octal pick
byte_quotes true c s = ((s refl).1, tt)
byte_quotes false c s = octal_quotes c

join_quotes : (a b : List ℕ) → NoQuotes a → NoQuotes b → NoQuotes (a ++ b)
join_quotes a b p q = all_append (λ x. eqb x 34 ≡ false) a b p q

rest_quotes : (free : Bool) (before : ℕ) (d : List ℕ) → NoQuotes (spell_rest free before d)
unfolding spell_rest
rest_quotes free before [] = tt
rest_quotes free before (c ∷ []) = byte_quotes (free && stands_last before c) c (last_stands free before c)
rest_quotes free before (c ∷ d ∷ l) = join_quotes (or_octal (stands_inside c) c) (spell_rest free c (d ∷ l)) (byte_quotes (stands_inside c) c (inside_stands c)) (rest_quotes free c (d ∷ l))

short_quotes : (d : List ℕ) → NoQuotes (spell_short d)
unfolding spell_short
short_quotes [] = tt
short_quotes (c ∷ l) =
    let free = not (is_truth (c ∷ l)) in
    join_quotes (or_octal (is_letter c) c) (spell_rest free c l) (byte_quotes (is_letter c) c (letter_stands c)) (rest_quotes free c l)

octals_quotes : (d : List ℕ) → NoQuotes (octal_all d)
unfolding octal_all
octals_quotes [] = tt
octals_quotes (c ∷ l) = join_quotes (octal c) (octal_all l) (octal_quotes c) (octals_quotes l)

text_quotes : (d : List ℕ) → NoQuotes (spell_text d)
unfolding spell_text pick
text_quotes d = by_test (leb (length d) longest) (λ t. rw t (short_quotes d)) (λ t. rw t (octals_quotes d))

doubled_none : (c : List ℕ) → NoQuotes c → doubled c ≡ c
unfolding doubled
doubled_none [] a = refl
doubled_none (x ∷ c) a = pick_false _ _ a.0 ∙ ap (λ z. x ∷ z) (doubled_none c a.1)

-- in quotes it is what the sheet shows
requote_shown : (d : List ℕ) → requote (spell_text d) ≡ show as_sheet (quoted d)
unfolding requote show quote spell_in
requote_shown d = ap (λ z. 34 ∷ (z ++ (34 ∷ []))) (doubled_none (spell_text d) (text_quotes d))

-- ---- no blank and no quote begins a cell

pub no_blank_lem : (sep x : ℕ) → 33 ≤ x → blank_beside sep x ≡ false
unfolding blank_beside
no_blank_lem sep x h = ap₂ ◌||◌ (ne_eqb x 32 (λ e. omega arith)) (ap (λ z. z && not (eqb sep 9)) (ne_eqb x 9 (λ e. omega arith)))

high_clean : (sep x : ℕ) (l : List ℕ) → 35 ≤ x → Clean sep (x ∷ l)
unfolding Clean
high_clean sep x l h = (no_blank_lem sep x (omega arith), above x h)

digits_clean : (sep : ℕ) (c : List ℕ) → All Digit c → Clean sep c
unfolding Clean
digits_clean sep [] a = tt
digits_clean sep (x ∷ c) a = high_clean sep x c (omega (arith, a.0))

letters_clean : (sep : ℕ) (c : List ℕ) → all_letters c ≡ true → Clean sep c
unfolding Clean all_letters
letters_clean sep [] a = tt
letters_clean sep (x ∷ c) a = high_clean sep x c (omega (arith, letter_range x (and_both (is_letter x) (all_letters c) a).0))

octal_clean : (sep c : ℕ) (l : List ℕ) → Clean sep (octal c ++ l)
unfolding octal
octal_clean sep c l = high_clean sep 92 _ (omega arith)

-- a letter or a backslash
first_clean : (sep : ℕ) (b : Bool) (c : ℕ) (l : List ℕ) → (b ≡ true → is_letter c ≡ true) → Clean sep (or_octal b c ++ l)
unfolding or_octal pick
first_clean sep true c l h = high_clean sep c l (omega (arith, letter_range c (h refl)))
first_clean sep false c l h = octal_clean sep c l

short_clean : (sep : ℕ) (d : List ℕ) → Clean sep (spell_short d)
unfolding spell_short Clean
short_clean sep [] = tt
short_clean sep (c ∷ l) = first_clean sep (is_letter c) c _ (λ e. e)

octals_clean : (sep : ℕ) (d : List ℕ) → Clean sep (octal_all d)
unfolding octal_all Clean
octals_clean sep [] = tt
octals_clean sep (c ∷ l) = octal_clean sep c (octal_all l)

text_clean : (sep : ℕ) (d : List ℕ) → Clean sep (spell_text d)
unfolding spell_text pick
text_clean sep d = by_test (leb (length d) longest) (λ t. rw t (short_clean sep d)) (λ t. rw t (octals_clean sep d))

pub field_clean : (sep : ℕ) (f : Field) → Good f → Clean sep (cell_of f)
unfolding Good cell_of
field_clean sep (num n) g = digits_clean sep (decimal n) (decimal_digits n g).1
field_clean sep (minus n) g = high_clean sep 45 (decimal n) (omega arith)
field_clean sep (name s) g = letters_clean sep s g.1
field_clean sep (quoted d) g = text_clean sep d

-- ---- no control byte

pub field_printable : (f : Field) → Good f → All Printable (cell_of f)
unfolding cell_of show
field_printable (num n) g = show_printable as_sheet (num n) g
field_printable (minus n) g = show_printable as_sheet (minus n) g
field_printable (name s) g = show_printable as_sheet (name s) g
field_printable (quoted d) g = spell_printable d

-- ---- the cell holds the field

shown_holds : (f : Field) → Good f → is_text_lem f ≡ false → Holds (show as_sheet f) f
shown_holds f g t =
    let w = field_cell (show as_sheet f) f [] (ap read_field (sym (append-nil (show as_sheet f))) ∙ show_read as_sheet f [] g tt) in
    let same : w.cell ≡ show as_sheet f = w.same t ∙ sym (append-nil w.part) ∙ sym w.whole in
    rw (← same) w.holds

text_reads : (d : List ℕ) → Good (quoted d) → Reads (requote (spell_text d)) (quoted d)
text_reads d g t h = ap (λ z. read_field (z ++ t)) (requote_shown d) ∙ show_read as_sheet (quoted d) t g h

field_holds : (f : Field) → Good f → Holds (cell_of f) f
unfolding cell_of show is_text_lem
field_holds (num n) g = shown_holds (num n) g refl
field_holds (minus n) g = shown_holds (minus n) g refl
field_holds (name s) g = shown_holds (name s) g refl
field_holds (quoted d) g = in_quotes refl (text_reads d g)

-- the cells of fields
unfoldable pub cells_of : List Field → List (List ℕ)
cells_of [] = []
cells_of (f ∷ fs) = cell_of f ∷ cells_of fs

pub fields_hold : (fs : List Field) → AllGood fs → HoldAll (cells_of fs) fs
unfolding cells_of
fields_hold [] g = tt
fields_hold (f ∷ fs) g = (field_holds f g.0, fields_hold fs g.1)
