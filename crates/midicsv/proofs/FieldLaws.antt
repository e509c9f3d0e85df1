-- Decimals from the last digit, the escapes of a byte, and how long both are.
use mathlib.Core.Path.{◌≡◌, refl, sym, ap, ◌∙◌}
use Prim.Native.Nat.{ℕ, zero, suc, ◌+◌, ◌*◌, ◌/◌, ◌%◌, ◌<◌, ◌≤◌}
use mathlib.Core.List.{List, [], ◌∷◌, ◌++◌, append_assoc}
use native.Mathlib.Omega.{arith}
use native.Mathlib.Numerals.{add-one}
use lib.ListN.{length, drop, get_or, length-append, drop_of_length-le}
use lib.Seq.{drop-cons}
use lib.Dec.{ltb, eqb}
use borrow.Author.Tests.{lt-ltb, le-ltb}
use Rattle.event.specs.Choice.{pick}
use Rattle.event.proofs.ChoiceLaws.{by_test}
use Rattle.midicsv.specs.Field.{digits_of, decimal, in_octal, escape, escape_all, num}
use Rattle.midicsv.specs.Show.{Form, as_text, as_sheet, gap, spell_in, quote, show, joined, further}
use Rattle.midicsv.specs.Record.{data_fields}
use Rattle.midicsv.proofs.SpellLaws.{spell_size}

-- ---- decimals

pub digits_most : (j n : ℕ) → (1 ≤ length (digits_of j n)) × (length (digits_of j n) ≤ suc j)
unfolding digits_of pick
digits_most zero n = omega arith
digits_most (suc j) n = by_test (ltb n 10) (λ t. rw t (omega arith)) (λ t. let (p, q) = digits_most j (n / 10) in rw t (simp length-append (omega arith)))

pub decimal_length : (n : ℕ) → length (decimal n) ≤ 10
unfolding decimal
decimal_length n = (digits_most 9 n).1

abbrev pub ten : ℕ → ℕ
ten zero = 1
ten (suc k) = ten k * 10

-- room for one digit more changes nothing
more_room : (j n : ℕ) → n < ten (suc j) → digits_of (suc j) n ≡ digits_of j n
unfolding digits_of pick
more_room zero n h = rw (lt-ltb n 10 (omega arith))
more_room (suc j) n h = by_test (ltb n 10) (λ t. rw t) (λ t. rw t (ap (λ l. l ++ ((48 + n % 10) ∷ [])) (more_room j (n / 10) (omega arith))))

last_digit : (n : ℕ) → 10 ≤ n → digits_of 9 n ≡ digits_of 8 (n / 10) ++ ((48 + n % 10) ∷ [])
unfolding digits_of pick
last_digit n h = rw (le-ltb n 10 h) refl

pub decimal_more : (n : ℕ) → 10 ≤ n → n < 4294967296 → decimal (n / 10) ++ ((48 + n % 10) ∷ []) ≡ decimal n
unfolding decimal
decimal_more n h k = ap (λ l. l ++ ((48 + n % 10) ∷ [])) (more_room 8 (n / 10) (omega arith)) ∙ sym (last_digit n h)

pub decimal_one : (n : ℕ) → n < 10 → (48 + n % 10) ∷ [] ≡ decimal n
unfolding decimal digits_of pick
decimal_one n h = let e : n % 10 ≡ n = omega arith in rw (lt-ltb n 10 h) (ap (λ d. (48 + d) ∷ []) e)

-- ---- texts

escape_length : (c : ℕ) → length (escape c) ≤ 4
unfolding escape pick
escape_length c =
    by_test (eqb c 34) (λ t. rw t (omega arith)) (λ n1.
    by_test (eqb c 92) (λ t. rw (n1, t) (omega arith)) (λ n2.
    by_test (in_octal c) (λ t. rw (n1, n2, t) (omega arith)) (λ n3. rw (n1, n2, n3) (omega arith))))

escapes_length : (d : List ℕ) → length (escape_all d) ≤ 4 * length d
unfolding escape_all
escapes_length [] = omega arith
escapes_length (c ∷ d) = let h = escapes_length d in simp length-append (omega (arith, escape_length c))

spell_length : (w : Form) (d : List ℕ) → length (spell_in w d) ≤ 4 * length d
unfolding spell_in
spell_length as_text d = escapes_length d
spell_length as_sheet d = spell_size d

pub quote_length : (w : Form) (d : List ℕ) → length (quote w d) ≤ 2 + 4 * length d
unfolding quote
quote_length w d = simp length-append (omega (arith, spell_length w d))

pub gap_length : (w : Form) → length (gap w) ≤ 2
unfolding gap
gap_length as_text = omega arith
gap_length as_sheet = omega arith

-- ---- a turn of the loop over a text: what is left to write

abbrev pub TextLeft : List ℕ → ℕ → List ℕ
TextLeft d i = escape_all (drop i d) ++ (34 ∷ [])

pub text_length : (d : List ℕ) → length (TextLeft d 0) ≤ 1 + 4 * length d
text_length d = simp length-append (omega (arith, escapes_length d))

one_more : (c : ℕ) (d : List ℕ) → escape_all (c ∷ d) ++ (34 ∷ []) ≡ escape c ++ (escape_all d ++ (34 ∷ []))
unfolding escape_all
one_more c d = append_assoc (escape c) (escape_all d) (34 ∷ [])

pub text_more : (d : List ℕ) (i : ℕ) → i < length d → TextLeft d i ≡ escape (get_or d i 0) ++ TextLeft d (i + 1)
text_more d i h = rw (add-one, drop-cons d i 0 h) (one_more (get_or d i 0) (drop (suc i) d))

pub text_end_lem : (d : List ℕ) (i : ℕ) → length d ≤ i → TextLeft d i ≡ 34 ∷ []
unfolding escape_all
text_end_lem d i h = rw (drop_of_length-le d h) refl

-- ---- a turn of the loop over data bytes

abbrev pub DataLeft : Form → List ℕ → ℕ → List ℕ
DataLeft w d i = further w (data_fields (drop i d))

data_one : (w : Form) (b : ℕ) (d : List ℕ) → further w (data_fields (b ∷ d)) ≡ joined w (num b) ++ further w (data_fields d)
unfolding further data_fields
data_one w b d = refl

pub data_more : (w : Form) (d : List ℕ) (i : ℕ) → i < length d → DataLeft w d i ≡ joined w (num (get_or d i 0)) ++ DataLeft w d (i + 1)
data_more w d i h = rw (add-one, drop-cons d i 0 h) (data_one w (get_or d i 0) (drop (suc i) d))

pub data_end : (w : Form) (d : List ℕ) (i : ℕ) → length d ≤ i → DataLeft w d i ≡ []
unfolding further data_fields
data_end w d i h = rw (drop_of_length-le d h) refl

pub data_length : (w : Form) (d : List ℕ) → length (further w (data_fields d)) ≤ 12 * length d
unfolding further data_fields show
data_length w [] = omega arith
data_length w (b ∷ d) = let h = data_length w d in simp length-append (omega (arith, decimal_length b, gap_length w))
