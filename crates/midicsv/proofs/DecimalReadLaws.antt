-- A decimal that is written is read back.
use mathlib.Core.Path.{◌≡◌, refl, ap, ◌∙◌}
use Prim.Native.Nat.{ℕ, zero, suc, ◌+◌, ◌-◌, ◌*◌, ◌/◌, ◌%◌, ◌<◌, ◌≤◌}
use mathlib.Core.Bool.{true, false}
use mathlib.Core.List.{List, [], ◌∷◌, ◌++◌, append_assoc}
use native.Mathlib.Omega.{arith}
use lib.ListN.{length, length-append}
use lib.Dec.{leb, ltb}
use borrow.Author.Tests.{le-leb, ltb-true}
use Rattle.event.specs.Choice.{pick}
use Rattle.event.specs.Outcome.{ok, and_then, check}
use Rattle.event.proofs.ChoiceLaws.{by_test, pick_true, pick_false}
use Rattle.event.proofs.OutcomeLaws.{and_then_eq, check_eq}
use Rattle.midicsv.specs.Field.{digits_of, decimal}
use Rattle.midicsv.specs.ReadField.{is_digit, read_digits, read_number}
use Rattle.midicsv.proofs.FieldLaws.{ten, digits_most}
use Rattle.midicsv.proofs.AllLaws.{All, all_append, Digit}

pub digit_yes : (c : ℕ) → Digit c → is_digit c ≡ true
unfolding is_digit
digit_yes c h = rw (le-leb 48 c h.0, le-leb c 57 h.1)

pub one_more : (k acc d : ℕ) (l : List ℕ) → d < 10 → read_digits (suc k) acc ((48 + d) ∷ l) ≡ read_digits k (acc * 10 + d) l
unfolding read_digits
one_more k acc d l h = pick_true _ _ (digit_yes (48 + d) (omega arith)) ∙ ap (λ n. read_digits k n l) (omega arith)

-- the digits of n are read to n
pub digits_read : (j n k : ℕ) (r : List ℕ) → n < ten (suc j) → read_digits (length (digits_of j n) + k) 0 (digits_of j n ++ r) ≡ read_digits k n r
unfolding digits_of pick
digits_read zero n k r h = ap (λ z. read_digits z 0 ((48 + n) ∷ r)) (omega arith) ∙ one_more k 0 n r (omega arith) ∙ ap (λ z. read_digits k z r) (omega arith)
digits_read (suc j) n k r h =
    by_test (ltb n 10)
    (λ t.
    let hn : n < 10 = ltb-true n 10 t in
    rw t (ap (λ z. read_digits z 0 ((48 + n) ∷ r)) (omega arith) ∙ one_more k 0 n r hn ∙ ap (λ z. read_digits k z r) (omega arith)))
    (λ t.
    let front : List ℕ = digits_of j (n / 10) in
    let len : length (digits_of j (n / 10) ++ ((48 + n % 10) ∷ [])) + k ≡ length (digits_of j (n / 10)) + suc k = omega (arith, length-append front ((48 + n % 10) ∷ [])) in
    rw (t, append_assoc (digits_of j (n / 10)) ((48 + n % 10) ∷ []) r)
    (ap (λ z. read_digits z 0 (front ++ ((48 + n % 10) ∷ r))) len
    ∙ digits_read j (n / 10) (suc k) ((48 + n % 10) ∷ r) (omega arith)
    ∙ one_more k (n / 10) (n % 10) r (omega arith)
    ∙ ap (λ z. read_digits k z r) (omega arith)))

pub all_digits : (j n : ℕ) → n < ten (suc j) → All Digit (digits_of j n)
unfolding digits_of pick
all_digits zero n h = omega arith
all_digits (suc j) n h =
    by_test (ltb n 10) (λ t. let hn : n < 10 = ltb-true n 10 t in rw t (omega arith))
    (λ t. rw t (all_append _ (digits_of j (n / 10)) _ (all_digits j (n / 10) (omega arith)) (omega arith)))

pub decimal_digits : (n : ℕ) → n ≤ 4294967295 → (1 ≤ length (decimal n)) × All Digit (decimal n)
unfolding decimal
decimal_digits n h = ((digits_most 9 n).0, all_digits 9 n (omega arith))

-- a rest that no digit begins
abbrev pub NoDigit : List ℕ → Type 0
NoDigit [] = Unit {0}
NoDigit (c ∷ l) = is_digit c ≡ false

pub stop : (k n : ℕ) (r : List ℕ) → NoDigit r → read_digits k n r ≡ ok n r
unfolding read_digits
stop zero n [] h = refl
stop (suc k) n [] h = refl
stop zero n (c ∷ l) h = pick_false _ _ h
stop (suc k) n (c ∷ l) h = pick_false _ _ h

pub starts : (l r : List ℕ) → (1 ≤ length l) × All Digit l → read_number (l ++ r) ≡ and_then (read_digits 10 0 (l ++ r)) (λ n q. check (leb n 4294967295) 22 0 (ok n q))
unfolding read_number
starts [] r h = absurd (omega arith)
starts (c ∷ l) r h = check_eq 22 0 _ (digit_yes c h.1.0)

pub decimal_read : (n : ℕ) (r : List ℕ) → n ≤ 4294967295 → NoDigit r → read_number (decimal n ++ r) ≡ ok n r
unfolding decimal
decimal_read n r h nd =
    let (lo, hi) = digits_most 9 n in
    let len : 10 ≡ length (digits_of 9 n) + (10 - length (digits_of 9 n)) = omega arith in
    starts (digits_of 9 n) r (lo, all_digits 9 n (omega arith))
    ∙ and_then_eq _ (ap (λ z. read_digits z 0 (digits_of 9 n ++ r)) len ∙ digits_read 9 n _ r (omega arith) ∙ stop _ n r nd)
    ∙ check_eq 22 0 _ (le-leb n 4294967295 h)
