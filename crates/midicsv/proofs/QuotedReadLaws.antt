-- A text in quotes is read back; it is written without control bytes.
use mathlib.Core.Path.{◌≡◌, refl, sym, ap, ◌∙◌}
use Prim.Native.Nat.{ℕ, ◌+◌, ◌*◌, ◌/◌, ◌%◌, ◌<◌, ◌≤◌}
use mathlib.Core.Bool.{true, false, false≢true, ◌&&◌, ◌||◌}
use mathlib.Core.List.{List, [], ◌∷◌, ◌++◌, append_assoc}
use native.Mathlib.Omega.{arith}
use lib.Dec.{leb, ltb, eqb}
use borrow.Author.Tests.{le-leb, eqb-true, ne_eqb, ltb-false}
use Rattle.event.specs.Choice.{pick}
use Rattle.event.specs.Outcome.{Outcome, ok}
use Rattle.event.specs.Bytes.{Bytes}
use Rattle.event.proofs.ChoiceLaws.{by_test, pick_true, pick_false}
use Rattle.event.proofs.OutcomeLaws.{check_eq}
use Rattle.midicsv.specs.Field.{in_octal, escape, escape_all}
use Rattle.midicsv.specs.ReadField.{push, plain, a_slash, octal1, octal2, is_octal, read_quoted}
use Rattle.midicsv.proofs.AllLaws.{All, all_append, Printable}

pub push_eq : (c : ℕ) {m : Outcome (List ℕ)} {d r : List ℕ} → m ≡ ok d r → push c m ≡ ok (c ∷ d) r
unfolding push
push_eq c e = ap (push c) e

-- ---- one byte

pub octal_is : (d : ℕ) → d < 8 → is_octal (48 + d) ≡ true
unfolding is_octal
octal_is d h = rw (le-leb 48 (48 + d) (omega arith), le-leb (48 + d) 55 (omega arith))

pub slash_first : (l : List ℕ) → read_quoted (92 ∷ l) plain ≡ read_quoted l a_slash
unfolding read_quoted pick
slash_first l = refl

pub first_digit : (d : ℕ) (l : List ℕ) → d < 4 → read_quoted ((48 + d) ∷ l) a_slash ≡ read_quoted l (octal1 d)
unfolding read_quoted
first_digit d l h =
    let both : (is_octal (48 + d) && leb (48 + d) 51) ≡ true = rw (octal_is d (omega arith), le-leb (48 + d) 51 (omega arith)) in
    pick_false _ _ (ne_eqb (48 + d) 92 (λ e. omega arith)) ∙ check_eq 22 0 _ both ∙ ap (λ n. read_quoted l (octal1 n)) (omega arith)

pub second_digit : (n d : ℕ) (l : List ℕ) → d < 8 → read_quoted ((48 + d) ∷ l) (octal1 n) ≡ read_quoted l (octal2 (n * 8 + d))
unfolding read_quoted
second_digit n d l h = check_eq 22 0 _ (octal_is d h) ∙ ap (λ m. read_quoted l (octal2 m)) (omega arith)

pub third_digit : (n d : ℕ) (l : List ℕ) → d < 8 → read_quoted ((48 + d) ∷ l) (octal2 n) ≡ push (n * 8 + d) (read_quoted l plain)
unfolding read_quoted
third_digit n d l h = check_eq 22 0 _ (octal_is d h) ∙ ap (λ m. push m (read_quoted l plain)) (omega arith)

pub octal_read : (c : ℕ) (l : List ℕ) → c < 256 → read_quoted (92 ∷ (48 + c / 64) ∷ (48 + c / 8 % 8) ∷ (48 + c % 8) ∷ l) plain ≡ push c (read_quoted l plain)
octal_read c l h =
    slash_first ((48 + c / 64) ∷ (48 + c / 8 % 8) ∷ (48 + c % 8) ∷ l)
    ∙ first_digit (c / 64) ((48 + c / 8 % 8) ∷ (48 + c % 8) ∷ l) (omega arith)
    ∙ second_digit (c / 64) (c / 8 % 8) ((48 + c % 8) ∷ l) (omega arith)
    ∙ third_digit (c / 64 * 8 + c / 8 % 8) (c % 8) l (omega arith)
    ∙ ap (λ n. push n (read_quoted l plain)) (omega arith)

pub two_quotes : (l : List ℕ) → read_quoted (34 ∷ 34 ∷ l) plain ≡ push 34 (read_quoted l plain)
unfolding read_quoted pick
two_quotes l = refl

pub two_slashes : (l : List ℕ) → read_quoted (92 ∷ 92 ∷ l) plain ≡ push 92 (read_quoted l plain)
unfolding read_quoted pick
two_slashes l = refl

-- a byte that stands is no control byte
pub high : (c : ℕ) → in_octal c ≡ false → 32 ≤ c
unfolding in_octal
high c e =
    by_test (ltb c 32) (λ t. absurd (false≢true (sym e ∙ ap (λ z. z || (leb 127 c && leb c 160)) t))) (λ t. ltb-false c 32 t)

pub stands : (c : ℕ) (l : List ℕ) → eqb c 34 ≡ false → eqb c 92 ≡ false → in_octal c ≡ false → read_quoted (c ∷ l) plain ≡ push c (read_quoted l plain)
unfolding read_quoted
stands c l n1 n2 n3 = let h = high c n3 in pick_false _ _ n1 ∙ pick_false _ _ n2 ∙ pick_false _ _ (ne_eqb c 13 (λ e. omega arith))

pub escape_read : (c : ℕ) (l : List ℕ) → c < 256 → read_quoted (escape c ++ l) plain ≡ push c (read_quoted l plain)
unfolding escape pick
escape_read c l h =
    by_test (eqb c 34) (λ t. rw (t, eqb-true c 34 t) (two_quotes l)) (λ n1.
    by_test (eqb c 92) (λ t. rw (n1, t, eqb-true c 92 t) (two_slashes l)) (λ n2.
    by_test (in_octal c) (λ t. rw (n1, n2, t) (octal_read c l h)) (λ n3. rw (n1, n2, n3) (stands c l n1 n2 n3))))

-- ---- a text

-- a rest that no quote begins
abbrev pub NoQuote : List ℕ → Type 0
NoQuote [] = Unit {0}
NoQuote (c ∷ l) = eqb c 34 ≡ false

pub closing : (r : List ℕ) → NoQuote r → read_quoted (34 ∷ r) plain ≡ ok [] r
unfolding read_quoted
closing [] h = pick_true _ _ refl
closing (c ∷ l) h = pick_true _ _ refl ∙ pick_false _ _ h

pub quoted_read : (d r : List ℕ) → Bytes d → NoQuote r → read_quoted (escape_all d ++ (34 ∷ r)) plain ≡ ok d r
unfolding escape_all
quoted_read [] r b h = closing r h
quoted_read (c ∷ d) r b h =
    rw append_assoc (escape_read c (escape_all d ++ (34 ∷ r)) b.0 ∙ push_eq c (quoted_read d r b.1 h))

-- ---- no control bytes

pub escape_printable : (c : ℕ) → All Printable (escape c)
unfolding escape pick
escape_printable c =
    by_test (eqb c 34) (λ t. rw t (omega arith)) (λ n1.
    by_test (eqb c 92) (λ t. rw (n1, t) (omega arith)) (λ n2.
    by_test (in_octal c) (λ t. rw (n1, n2, t) (omega arith)) (λ n3. rw (n1, n2, n3) (high c n3, tt))))

pub escapes_printable : (d : List ℕ) → All Printable (escape_all d)
unfolding escape_all
escapes_printable [] = tt
escapes_printable (c ∷ d) = all_append Printable (escape c) (escape_all d) (escape_printable c) (escapes_printable d)
