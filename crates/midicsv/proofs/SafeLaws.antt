-- The cell of every text is safe.
use mathlib.Core.Path.{◌≡◌, refl, sym, ◌∙◌}
use Prim.Native.Nat.{ℕ, ◌+◌, ◌/◌, ◌%◌, ◌<◌, ◌≤◌}
use mathlib.Core.Bool.{Bool, true, false, false≢true, ◌&&◌, ◌||◌, not}
use mathlib.Core.List.{List, [], ◌∷◌, ◌++◌, append-nil}
use native.Mathlib.Omega.{arith}
use lib.ListN.{length, length-append}
use lib.Dec.{leb, eqb}
use borrow.Author.Tests.{le-leb, lt-leb, eqb-true}
use Rattle.event.specs.Choice.{pick}
use Rattle.event.specs.Bytes.{Bytes}
use Rattle.event.proofs.ChoiceLaws.{by_test, or_cases, and_both}
use Rattle.midicsv.specs.ReadField.{is_digit, is_letter, is_octal}
use Rattle.midicsv.specs.Spell.{octal, or_octal, is_mark, is_solid, stands_inside, stands_last, is_truth, spell_rest, spell_short, octal_all, spell_text, longest}
use Rattle.midicsv.specs.Safe.{BeginsWell, EndsWell, Grouped, none, one, group, Safe}
use Rattle.midicsv.proofs.SpellLaws.{spell_size}
use Rattle.midicsv.proofs.NoWordLaws.{no_word}

-- ---- the first byte

byte_begins : (b : Bool) (c : ℕ) (l : List ℕ) → (b ≡ true → is_letter c ≡ true) → BeginsWell (or_octal b c ++ l)
unfolding BeginsWell or_octal octal pick is_letter
byte_begins true c l s = rw (s refl)
byte_begins false c l s = refl

short_begins : (d : List ℕ) → BeginsWell (spell_short d)
unfolding BeginsWell spell_short
short_begins [] = tt
short_begins (c ∷ l) = byte_begins (is_letter c) c (spell_rest (not (is_truth (c ∷ l))) c l) (λ t. t)

octals_begin : (d : List ℕ) → BeginsWell (octal_all d)
unfolding BeginsWell octal_all octal is_letter
octals_begin [] = tt
octals_begin (c ∷ d) = refl

-- ---- bytes that stand

solid_inside : (c : ℕ) → is_solid c ≡ true → stands_inside c ≡ true
unfolding stands_inside
solid_inside c s = rw s

letter_inside : (c : ℕ) → is_letter c ≡ true → stands_inside c ≡ true
unfolding stands_inside is_solid
letter_inside c s = rw s

last_inside : (free : Bool) (before c : ℕ) → (free && stands_last before c) ≡ true → stands_inside c ≡ true
unfolding stands_last stands_inside is_solid is_letter is_mark
last_inside free before c e =
    or_cases (is_solid c) (eqb c 32 && is_solid before) (and_both free (stands_last before c) e).1
    (λ s. solid_inside c s)
    (λ s. rw (eqb-true c 32 (and_both (eqb c 32) (is_solid before) s).0) refl)

-- ---- groups

octal_digit : (n : ℕ) → n ≤ 7 → is_octal (48 + n) ≡ true
unfolding is_octal
octal_digit n h = rw (le-leb 48 (48 + n) (omega arith), le-leb (48 + n) 55 (omega arith))

octal_grouped : (stands : ℕ → Bool) (c : ℕ) (l : List ℕ) → c < 256 → Grouped stands l → Grouped stands (octal c ++ l)
unfolding octal
octal_grouped stands c l h g = group (octal_digit (c / 64) (omega arith)) (octal_digit (c / 8 % 8) (omega arith)) (octal_digit (c % 8) (omega arith)) g

byte_grouped : (b : Bool) (c : ℕ) (l : List ℕ) → c < 256 → (b ≡ true → stands_inside c ≡ true) → Grouped stands_inside l → Grouped stands_inside (or_octal b c ++ l)
unfolding or_octal pick
byte_grouped true c l h s g = one (s refl) g
byte_grouped false c l h s g = octal_grouped stands_inside c l h g

rest_grouped : (free : Bool) (before : ℕ) (l : List ℕ) → Bytes l → Grouped stands_inside (spell_rest free before l)
unfolding spell_rest
rest_grouped free before [] b = none
rest_grouped free before (c ∷ []) b =
    let whole = byte_grouped (free && stands_last before c) c [] b.0 (last_inside free before c) none in
    rw (append-nil (or_octal (free && stands_last before c) c)) at whole
rest_grouped free before (c ∷ x ∷ l) b =
    byte_grouped (stands_inside c) c (spell_rest free c (x ∷ l)) b.0 (λ t. t) (rest_grouped free c (x ∷ l) b.1)

short_grouped : (d : List ℕ) → Bytes d → Grouped stands_inside (spell_short d)
unfolding spell_short
short_grouped [] b = none
short_grouped (c ∷ l) b =
    let free = not (is_truth (c ∷ l)) in
    byte_grouped (is_letter c) c (spell_rest free c l) b.0 (letter_inside c) (rest_grouped free c l b.1)

octals_grouped : (stands : ℕ → Bool) (d : List ℕ) → Bytes d → Grouped stands (octal_all d)
unfolding octal_all
octals_grouped stands [] b = none
octals_grouped stands (c ∷ d) b = octal_grouped stands c (octal_all d) b.0 (octals_grouped stands d b.1)

-- ---- the last byte

-- what a blank may follow at the end of a cell
abbrev Firm : ℕ → Type 0
Firm c = (is_solid c || is_digit c) ≡ true

not_solid : (c k : ℕ) → is_solid k ≡ false → is_solid c ≡ true → c ≡ k → ⊥
not_solid c k n s e = false≢true (sym n ∙ (rw e at s))

solid_ends : (q c : ℕ) → is_solid c ≡ true → EndsWell q (c ∷ [])
unfolding EndsWell is_solid is_letter is_mark
solid_ends q c s = (not_solid c 44 refl s, λ e. absurd (not_solid c 32 refl s e))

or_true : (b : Bool) → (b || true) ≡ true
or_true true = refl
or_true false = refl

blank_ends : (q c : ℕ) → c ≡ 32 → Firm q → EndsWell q (c ∷ [])
unfolding EndsWell
blank_ends q c e f = (λ k. omega arith, λ k. f)

ends_none : (q : ℕ) → EndsWell q []
unfolding EndsWell
ends_none q = tt

digit_firm : (n : ℕ) → n ≤ 7 → Firm (48 + n)
unfolding is_digit
digit_firm n h = rw (le-leb 48 (48 + n) (omega arith), le-leb (48 + n) 57 (omega arith)) (or_true (is_solid (48 + n)))

-- only the last byte counts
ends_later : (q c : ℕ) (l : List ℕ) → 1 ≤ length l → EndsWell c l → EndsWell q (c ∷ l)
unfolding EndsWell
ends_later q c [] h e = absurd (omega arith)
ends_later q c (x ∷ l) h e = e

octal_ends : (q c : ℕ) → EndsWell q (octal c)
unfolding EndsWell octal
octal_ends q c = (λ e. omega arith, λ e. absurd (omega arith))

octal_later : (q c : ℕ) (l : List ℕ) → 1 ≤ length l → EndsWell (48 + c % 8) l → EndsWell q (octal c ++ l)
unfolding octal EndsWell
octal_later q c l h e = ends_later (48 + c / 8 % 8) (48 + c % 8) l h e

-- a byte that is not the last: what follows it may hold for either spelling
byte_later : (b : Bool) (q c : ℕ) (l : List ℕ) → 1 ≤ length l → ((p : ℕ) → (is_solid c ≡ true → Firm p) → EndsWell p l) → EndsWell q (or_octal b c ++ l)
unfolding or_octal pick
byte_later true q c l h k = ends_later q c l h (k c (λ s. rw s))
byte_later false q c l h k = octal_later q c l h (k (48 + c % 8) (λ s. digit_firm (c % 8) (omega arith)))

byte_some : (b : Bool) (c : ℕ) → 1 ≤ length (or_octal b c)
unfolding or_octal octal pick
byte_some true c = omega arith
byte_some false c = omega arith

rest_some : (free : Bool) (before c : ℕ) (l : List ℕ) → 1 ≤ length (spell_rest free before (c ∷ l))
unfolding spell_rest
rest_some free before c [] = byte_some (free && stands_last before c) c
rest_some free before c (x ∷ l) = let h = byte_some (stands_inside c) c in simp length-append (omega arith)

last_ends : (free : Bool) (before q c : ℕ) → (is_solid before ≡ true → Firm q) → EndsWell q (or_octal (free && stands_last before c) c)
unfolding or_octal pick stands_last
last_ends free before q c f =
    by_test (free && stands_last before c)
    (λ t. rw t (or_cases (is_solid c) (eqb c 32 && is_solid before) (and_both free (stands_last before c) t).1
    (λ s. solid_ends q c s)
    (λ s. blank_ends q c (eqb-true c 32 (and_both (eqb c 32) (is_solid before) s).0) (f (and_both (eqb c 32) (is_solid before) s).1))))
    (λ t. rw t (octal_ends q c))

rest_ends : (free : Bool) (before q c : ℕ) (l : List ℕ) → (is_solid before ≡ true → Firm q) → EndsWell q (spell_rest free before (c ∷ l))
unfolding spell_rest
rest_ends free before q c [] f = last_ends free before q c f
rest_ends free before q c (x ∷ l) f =
    byte_later (stands_inside c) q c (spell_rest free c (x ∷ l)) (rest_some free c x l) (λ p. rest_ends free c p x l)

letter_solid : (c : ℕ) → is_letter c ≡ true → is_solid c ≡ true
unfolding is_solid
letter_solid c s = rw s

first_ends : (b : Bool) (c : ℕ) → (b ≡ true → is_letter c ≡ true) → EndsWell 0 (or_octal b c ++ [])
unfolding or_octal octal pick
first_ends true c s = solid_ends 0 c (letter_solid c (s refl))
first_ends false c s = octal_ends 0 c

short_ends : (d : List ℕ) → EndsWell 0 (spell_short d)
unfolding spell_short spell_rest
short_ends [] = ends_none 0
short_ends (c ∷ []) = first_ends (is_letter c) c (λ t. t)
short_ends (c ∷ x ∷ l) =
    let free = not (is_truth (c ∷ x ∷ l)) in
    byte_later (is_letter c) 0 c (spell_rest free c (x ∷ l)) (rest_some free c x l) (λ p. rest_ends free c p x l)

octals_some : (c : ℕ) (d : List ℕ) → 1 ≤ length (octal_all (c ∷ d))
unfolding octal_all octal
octals_some c d = omega arith

octals_end : (q : ℕ) (d : List ℕ) → EndsWell q (octal_all d)
unfolding octal_all octal
octals_end q [] = ends_none q
octals_end q (c ∷ []) = octal_ends q c
octals_end q (c ∷ x ∷ l) = octal_later q c (octal_all (x ∷ l)) (octals_some x l) (octals_end (48 + c % 8) (x ∷ l))

-- ---- the cell of a text

pub text_safe : (d : List ℕ) → Bytes d → Safe d (spell_text d)
unfolding spell_text pick
text_safe d b = record {
  begins = by_test (leb (length d) longest) (λ t. rw t (short_begins d)) (λ t. rw t (octals_begin d));
  ends = by_test (leb (length d) longest) (λ t. rw t (short_ends d)) (λ t. rw t (octals_end 0 d));
  groups = by_test (leb (length d) longest) (λ t. rw t (short_grouped d b)) (λ t. rw t (octals_grouped stands_inside d b));
  no_word = no_word d;
  short_enough = λ h. let s = spell_size d in omega arith;
  all_octal = λ h. rw (lt-leb (length d) longest (omega (arith, h))) (octals_grouped (λ c. false) d b);
}
