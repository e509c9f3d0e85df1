-- A text spelled for a cell is read back; it has no control byte, and at most four bytes for each of its own.
use mathlib.Core.Path.{◌≡◌, refl, ◌∙◌}
use Prim.Native.Nat.{ℕ, ◌*◌, ◌<◌, ◌≤◌}
use mathlib.Core.Bool.{Bool, true, false, ◌&&◌, ◌||◌, not}
use mathlib.Core.List.{List, [], ◌∷◌, ◌++◌, append_assoc}
use native.Mathlib.Omega.{arith}
use lib.ListN.{length, length-append}
use lib.Dec.{leb, eqb}
use borrow.Author.Tests.{eqb-true, ne_eqb, leb-true}
use Rattle.event.specs.Choice.{pick}
use Rattle.event.specs.Outcome.{ok}
use Rattle.event.specs.Bytes.{Bytes}
use Rattle.event.proofs.ChoiceLaws.{by_test, pick_false, or_cases, and_both}
use Rattle.midicsv.specs.ReadField.{is_letter, push, plain, read_quoted}
use Rattle.midicsv.proofs.AllLaws.{All, all_append, Printable}
use Rattle.midicsv.proofs.QuotedReadLaws.{push_eq, octal_read, NoQuote, closing}
use Rattle.midicsv.specs.Spell.{octal, or_octal, is_mark, is_solid, stands_inside, stands_last, is_truth, spell_rest, spell_short, octal_all, spell_text, longest}

-- ---- a byte that may stand: no control byte, no quote, no backslash

abbrev pub Stands : ℕ → Type 0
Stands c = (32 ≤ c) × (eqb c 34 ≡ false) × (eqb c 92 ≡ false)

one_stands : (c k : ℕ) → eqb c k ≡ true → 32 ≤ k → eqb k 34 ≡ false → eqb k 92 ≡ false → Stands c
one_stands c k e h a b = rw (eqb-true c k e) (h, a, b)

range_stands : (c lo hi : ℕ) → (leb lo c && leb c hi) ≡ true → 35 ≤ lo → hi ≤ 91 → Stands c
range_stands c lo hi e h k =
    let b = and_both (leb lo c) (leb c hi) e in
    let x = leb-true lo c b.0 in
    let y = leb-true c hi b.1 in
    (omega arith, ne_eqb c 34 (λ q. omega arith), ne_eqb c 92 (λ q. omega arith))

high_stands : (c : ℕ) → 93 ≤ c → Stands c
high_stands c h = (omega arith, ne_eqb c 34 (λ q. omega arith), ne_eqb c 92 (λ q. omega arith))

pub letter_stands : (c : ℕ) → is_letter c ≡ true → Stands c
unfolding is_letter
letter_stands c e =
    or_cases (leb 65 c && leb c 90) _ e (λ t. range_stands c 65 90 t (omega arith) (omega arith)) (λ e2.
    or_cases (leb 97 c && leb c 122) _ e2 (λ t. let h = leb-true 97 c (and_both (leb 97 c) (leb c 122) t).0 in high_stands c (omega arith)) (λ t. one_stands c 95 t (omega arith) refl refl))

mark_stands : (c : ℕ) → is_mark c ≡ true → Stands c
unfolding is_mark
mark_stands c e =
    or_cases (eqb c 33) _ e (λ t. one_stands c 33 t (omega arith) refl refl) (λ e2.
    or_cases (eqb c 58) _ e2 (λ t. one_stands c 58 t (omega arith) refl refl) (λ e3.
    or_cases (eqb c 63) _ e3 (λ t. one_stands c 63 t (omega arith) refl refl) (λ e4.
    or_cases (leb 39 c && leb c 43) _ e4 (λ t. range_stands c 39 43 t (omega arith) (omega arith)) (λ t. range_stands c 45 46 t (omega arith) (omega arith)))))

blank_stands : (c : ℕ) → eqb c 32 ≡ true → Stands c
blank_stands c t = one_stands c 32 t (omega arith) refl refl

solid_stands : (c : ℕ) → is_solid c ≡ true → Stands c
unfolding is_solid
solid_stands c e = or_cases (is_letter c) _ e (λ t. letter_stands c t) (λ t. mark_stands c t)

pub last_stands : (free : Bool) (before c : ℕ) → (free && stands_last before c) ≡ true → Stands c
unfolding stands_last
last_stands free before c e =
    or_cases (is_solid c) _ (and_both free (is_solid c || (eqb c 32 && is_solid before)) e).1
    (λ t. solid_stands c t)
    (λ t. blank_stands c (and_both (eqb c 32) (is_solid before) t).0)

pub inside_stands : (c : ℕ) → stands_inside c ≡ true → Stands c
unfolding stands_inside
inside_stands c e =
    or_cases (is_solid c) _ e (λ t. solid_stands c t) (λ e2. or_cases (eqb c 32) _ e2 (λ t. blank_stands c t) (λ t. one_stands c 44 t (omega arith) refl refl))

-- ---- one byte is read back

stand_read : (c : ℕ) (l : List ℕ) → Stands c → read_quoted (c ∷ l) plain ≡ push c (read_quoted l plain)
unfolding read_quoted
stand_read c l s = pick_false _ _ s.1 ∙ pick_false _ _ s.2 ∙ pick_false _ _ (ne_eqb c 13 (λ e. omega (arith, s.0)))

pub byte_read : (b : Bool) (c : ℕ) (l : List ℕ) → c < 256 → (b ≡ true → Stands c) → read_quoted (or_octal b c ++ l) plain ≡ push c (read_quoted l plain)
unfolding or_octal octal pick
byte_read true c l h s = stand_read c l (s refl)
byte_read false c l h s = octal_read c l h

-- ---- a text is read back

one_more : (b : Bool) (c : ℕ) (m d r : List ℕ) → c < 256 → (b ≡ true → Stands c) → read_quoted m plain ≡ ok d r → read_quoted (or_octal b c ++ m) plain ≡ ok (c ∷ d) r
one_more b c m d r h s e = byte_read b c m h s ∙ push_eq c e

rest_read : (free : Bool) (before : ℕ) (d r : List ℕ) → Bytes d → NoQuote r → read_quoted (spell_rest free before d ++ (34 ∷ r)) plain ≡ ok d r
unfolding spell_rest
rest_read free before [] r b n = closing r n
rest_read free before (c ∷ []) r b n = one_more _ c (34 ∷ r) [] r b.0 (last_stands free before c) (closing r n)
rest_read free before (c ∷ d ∷ l) r b n =
    rw append_assoc (one_more _ c (spell_rest free c (d ∷ l) ++ (34 ∷ r)) (d ∷ l) r b.0 (inside_stands c) (rest_read free c (d ∷ l) r b.1 n))

short_read : (d r : List ℕ) → Bytes d → NoQuote r → read_quoted (spell_short d ++ (34 ∷ r)) plain ≡ ok d r
unfolding spell_short
short_read [] r b n = closing r n
short_read (c ∷ l) r b n =
    let free = not (is_truth (c ∷ l)) in
    rw append_assoc (one_more (is_letter c) c (spell_rest free c l ++ (34 ∷ r)) l r b.0 (letter_stands c) (rest_read free c l r b.1 n))

octals_read : (d r : List ℕ) → Bytes d → NoQuote r → read_quoted (octal_all d ++ (34 ∷ r)) plain ≡ ok d r
unfolding octal_all octal
octals_read [] r b n = closing r n
octals_read (c ∷ l) r b n = octal_read c (octal_all l ++ (34 ∷ r)) b.0 ∙ push_eq c (octals_read l r b.1 n)

pub spell_read : (d r : List ℕ) → Bytes d → NoQuote r → read_quoted (spell_text d ++ (34 ∷ r)) plain ≡ ok d r
unfolding spell_text pick
spell_read d r b n = by_test (leb (length d) longest) (λ t. rw t (short_read d r b n)) (λ t. rw t (octals_read d r b n))

-- ---- no control bytes

octal_printable : (c : ℕ) → All Printable (octal c)
unfolding octal
octal_printable c = omega arith

byte_printable : (b : Bool) (c : ℕ) → (b ≡ true → Stands c) → All Printable (or_octal b c)
unfolding or_octal pick
byte_printable true c s = ((s refl).0, tt)
byte_printable false c s = octal_printable c

rest_printable : (free : Bool) (before : ℕ) (d : List ℕ) → All Printable (spell_rest free before d)
unfolding spell_rest
rest_printable free before [] = tt
rest_printable free before (c ∷ []) = byte_printable _ c (last_stands free before c)
rest_printable free before (c ∷ d ∷ l) = all_append Printable (or_octal _ c) _ (byte_printable _ c (inside_stands c)) (rest_printable free c (d ∷ l))

short_printable : (d : List ℕ) → All Printable (spell_short d)
unfolding spell_short
short_printable [] = tt
short_printable (c ∷ l) = all_append Printable (or_octal (is_letter c) c) _ (byte_printable (is_letter c) c (letter_stands c)) (rest_printable _ c l)

octals_printable : (d : List ℕ) → All Printable (octal_all d)
unfolding octal_all
octals_printable [] = tt
octals_printable (c ∷ l) = all_append Printable (octal c) (octal_all l) (octal_printable c) (octals_printable l)

pub spell_printable : (d : List ℕ) → All Printable (spell_text d)
unfolding spell_text pick
spell_printable d = by_test (leb (length d) longest) (λ t. rw t (short_printable d)) (λ t. rw t (octals_printable d))

-- ---- at most four bytes for each

pub byte_size : (b : Bool) (c : ℕ) → length (or_octal b c) ≤ 4
unfolding or_octal octal pick
byte_size true c = omega arith
byte_size false c = omega arith

pub rest_size : (free : Bool) (before : ℕ) (d : List ℕ) → length (spell_rest free before d) ≤ 4 * length d
unfolding spell_rest
rest_size free before [] = omega arith
rest_size free before (c ∷ []) = omega (arith, byte_size (free && stands_last before c) c)
rest_size free before (c ∷ d ∷ l) = let q = rest_size free c (d ∷ l) in simp length-append (omega (arith, byte_size (stands_inside c) c))

short_size : (d : List ℕ) → length (spell_short d) ≤ 4 * length d
unfolding spell_short
short_size [] = omega arith
short_size (c ∷ l) = let q = rest_size (not (is_truth (c ∷ l))) c l in simp length-append (omega (arith, byte_size (is_letter c) c))

pub octals_size : (d : List ℕ) → length (octal_all d) ≤ 4 * length d
unfolding octal_all octal
octals_size [] = omega arith
octals_size (c ∷ l) = let q = octals_size l in omega arith

pub spell_size : (d : List ℕ) → length (spell_text d) ≤ 4 * length d
unfolding spell_text pick
spell_size d = by_test (leb (length d) longest) (λ t. rw t (short_size d)) (λ t. rw t (octals_size d))
