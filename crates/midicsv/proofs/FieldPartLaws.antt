-- What the reader of a field accepts: a field of bytes that fits, and a rest that is no longer.
use mathlib.Core.Path.{◌≡◌, ap}
use Prim.Native.Nat.{ℕ, zero, suc, ◌+◌, ◌-◌, ◌*◌, ◌<◌, ◌≤◌}
use mathlib.Core.Bool.{true}
use mathlib.Core.List.{List, [], ◌∷◌}
use native.Mathlib.Omega.{arith}
use lib.ListN.{length}
use lib.Dec.{leb, eqb}
use borrow.Author.Tests.{leb-true}
use Rattle.event.specs.Choice.{pick}
use Rattle.event.specs.Outcome.{Outcome, ok, refused}
use Rattle.event.specs.Bytes.{Bytes}
use Rattle.event.proofs.ChoiceLaws.{pick_cases, by_test, and_both}
use Rattle.event.proofs.OutcomeLaws.{not_ok, ok_same, and_then_ok, check_ok}
use Rattle.midicsv.specs.Field.{Field, num, minus, name, quoted}
use Rattle.midicsv.specs.ReadField.{is_digit, is_blank, is_letter, skip, push, read_digits, read_number, negative, Seen, plain, a_quote, a_slash, octal1, octal2, is_octal, read_quoted, read_name, at_comma, finish, field_of, read_field}

-- a field read from at most n bytes
unfoldable pub Fine : ℕ → Field → Type 0
Fine n (num k) = k ≤ 4294967295
Fine n (minus k) = (1 ≤ k) × (k ≤ 4294967295)
Fine n (name s) = Unit {0}
Fine n (quoted d) = Bytes d × (length d ≤ n)

-- a rest of l: bytes, and no more than l has
abbrev pub Part : List ℕ → List ℕ → Type 0
Part r l = Bytes r × (length r ≤ length l)

skip_part : (l : List ℕ) → Bytes l → Part (skip l) l
unfolding skip pick
skip_part [] b = (tt, omega arith)
skip_part (c ∷ l) b = by_test (is_blank c) (λ t. let q = skip_part l b.1 in rw t (q.0, omega arith)) (λ t. rw t (b, omega arith))

-- ---- numbers

digits_part : (k acc : ℕ) (l : List ℕ) (n : ℕ) (r : List ℕ) → Bytes l → read_digits k acc l ≡ ok n r → Part r l
unfolding read_digits
digits_part zero acc [] n r b e = ok_same acc n [] r e (λ p q. rw (← q) (tt, omega arith))
digits_part (suc k) acc [] n r b e = ok_same acc n [] r e (λ p q. rw (← q) (tt, omega arith))
digits_part zero acc (c ∷ l) n r b e = pick_cases (is_digit c) _ _ _ e (λ t q. not_ok q) (λ t q. ok_same acc n (c ∷ l) r q (λ p z. rw (← z) (b, omega arith)))
digits_part (suc k) acc (c ∷ l) n r b e =
    pick_cases (is_digit c) _ _ _ e
    (λ t q. let z = digits_part k _ l n r b.1 q in (z.0, omega arith))
    (λ t q. ok_same acc n (c ∷ l) r q (λ p z. rw (← z) (b, omega arith)))

number_part : (l : List ℕ) (n : ℕ) (r : List ℕ) → Bytes l → read_number l ≡ ok n r → (n ≤ 4294967295) × Part r l
unfolding read_number
number_part [] n r b e = not_ok e
number_part (c ∷ l) n r b e =
    let (t, e1) = check_ok _ 22 0 _ n r e in
    and_then_ok (read_digits 10 0 (c ∷ l)) _ n r e1 (λ m q qm e2.
    let (t2, e3) = check_ok _ 22 0 _ n r e2 in
    let z = digits_part 10 0 (c ∷ l) m q b qm in
    ok_same m n q r e3 (λ p w. rw (← p, ← w) (leb-true m 4294967295 t2, z)))

-- ---- texts

-- a text with a byte pushed in front
pub push_ok : {X : Type 0} (c : ℕ) (m : Outcome (List ℕ)) (d r : List ℕ) → push c m ≡ ok d r → ((x : List ℕ) → m ≡ ok x r → c ∷ x ≡ d → X) → X
unfolding push
push_ok c (ok x q) d r e k = ok_same (c ∷ x) d q r e (λ p z. k x (ap (ok x) z) p)
push_ok c (refused n p) d r e k = not_ok e

-- the octal digits seen make a byte
unfoldable pub FineSeen : Seen → Type 0
FineSeen plain = Unit {0}
FineSeen a_quote = Unit {0}
FineSeen a_slash = Unit {0}
FineSeen (octal1 n) = n < 4
FineSeen (octal2 n) = n < 32

pub octal_value : (c : ℕ) → is_octal c ≡ true → c - 48 < 8
unfolding is_octal
octal_value c t = let (a, b) = and_both (leb 48 c) (leb c 55) t in omega (arith, leb-true c 55 b)

-- the text d is of bytes, and no longer than what was read
abbrev Taken : List ℕ → List ℕ → List ℕ → Type 0
Taken d r l = Bytes d × (length d ≤ length l) × Part r l

taken_more : (c x : ℕ) (l d r y : List ℕ) → x < 256 → Taken y r l → x ∷ y ≡ d → Taken d r (c ∷ l)
taken_more c x l d r y h z e = rw (← e) ((h, z.0), omega arith, (z.2.0, omega arith))

taken_later : (c : ℕ) (l d r : List ℕ) → Taken d r l → Taken d r (c ∷ l)
taken_later c l d r z = (z.0, omega arith, (z.2.0, omega arith))

quoted_part : (l : List ℕ) (st : Seen) (d r : List ℕ) → Bytes l → FineSeen st → read_quoted l st ≡ ok d r → Taken d r l
unfolding read_quoted FineSeen
quoted_part [] plain d r b s e = not_ok e
quoted_part [] a_quote d r b s e = ok_same [] d [] r e (λ p q. rw (← p, ← q) (tt, omega arith, (tt, omega arith)))
quoted_part [] a_slash d r b s e = not_ok e
quoted_part [] (octal1 n) d r b s e = not_ok e
quoted_part [] (octal2 n) d r b s e = not_ok e
quoted_part (c ∷ l) plain d r b s e =
    pick_cases (eqb c 34) _ _ _ e (λ t q. taken_later c l d r (quoted_part l a_quote d r b.1 tt q)) (λ n1 e1.
    pick_cases (eqb c 92) _ _ _ e1 (λ t q. taken_later c l d r (quoted_part l a_slash d r b.1 tt q)) (λ n2 e2.
    pick_cases (eqb c 13) _ _ _ e2 (λ t q. not_ok q) (λ n3 e3.
    push_ok c (read_quoted l plain) d r e3 (λ x q z. taken_more c c l d r x b.0 (quoted_part l plain x r b.1 tt q) z))))
quoted_part (c ∷ l) a_quote d r b s e =
    pick_cases (eqb c 34) _ _ _ e
    (λ t q. push_ok 34 (read_quoted l plain) d r q (λ x y z. taken_more c 34 l d r x (omega arith) (quoted_part l plain x r b.1 tt y) z))
    (λ t q. ok_same [] d (c ∷ l) r q (λ p z. rw (← p, ← z) (tt, omega arith, (b, omega arith))))
quoted_part (c ∷ l) a_slash d r b s e =
    pick_cases (eqb c 92) _ _ _ e
    (λ t q. push_ok 92 (read_quoted l plain) d r q (λ x y z. taken_more c 92 l d r x (omega arith) (quoted_part l plain x r b.1 tt y) z))
    (λ t q.
    let (u, y) = check_ok _ 22 0 _ d r q in
    let h = leb-true c 51 (and_both (is_octal c) (leb c 51) u).1 in
    taken_later c l d r (quoted_part l (octal1 (c - 48)) d r b.1 (omega arith) y))
quoted_part (c ∷ l) (octal1 n) d r b s e =
    let (u, y) = check_ok _ 22 0 _ d r e in
    let h = octal_value c u in
    taken_later c l d r (quoted_part l (octal2 (n * 8 + (c - 48))) d r b.1 (omega arith) y)
quoted_part (c ∷ l) (octal2 n) d r b s e =
    let (u, y) = check_ok _ 22 0 _ d r e in
    let h = octal_value c u in
    push_ok _ (read_quoted l plain) d r y (λ x q z. taken_more c _ l d r x (omega arith) (quoted_part l plain x r b.1 tt q) z)

-- ---- names

name_part : (l s r : List ℕ) → Bytes l → read_name l ≡ ok s r → Part r l
unfolding read_name
name_part [] s r b e = ok_same [] s [] r e (λ p q. rw (← q) (tt, omega arith))
name_part (c ∷ l) s r b e =
    pick_cases (is_letter c) _ _ _ e
    (λ t q. push_ok c (read_name l) s r q (λ x y z. let w = name_part l x r b.1 y in (w.0, omega arith)))
    (λ t q. ok_same [] s (c ∷ l) r q (λ p z. rw (← z) (b, omega arith)))

-- ---- a field

module _ (n : ℕ) where
  comma_part : (f g : Field) (l r : List ℕ) → Bytes l → Fine n f → at_comma f l ≡ ok g r → Fine n g × Part r l
  unfolding at_comma
  comma_part f g [] r b h e = ok_same f g [] r e (λ p q. rw (← p, ← q) (h, (tt, omega arith)))
  comma_part f g (c ∷ l) r b h e = let (t, y) = check_ok _ 22 0 _ g r e in ok_same f g (c ∷ l) r y (λ p q. rw (← p, ← q) (h, (b, omega arith)))

  -- the rest m of l, then what follows the field
  finish_part : (f g : Field) (l m r : List ℕ) → Part m l → Fine n f → finish f m ≡ ok g r → Fine n g × Part r l
  unfolding finish
  finish_part f g l m r b h e =
      let s = skip_part m b.0 in
      let z = comma_part f g (skip m) r s.0 h e in
      (z.0, (z.1.0, omega arith))

  negative_fine : (k : ℕ) → k ≤ 4294967295 → Fine n (negative k)
  unfolding negative Fine
  negative_fine zero h = omega arith
  negative_fine (suc k) h = omega arith

  num_fine : (k : ℕ) → k ≤ 4294967295 → Fine n (num k)
  unfolding Fine
  num_fine k h = h

  text_fine : (d : List ℕ) → Bytes d → length d ≤ n → Fine n (quoted d)
  unfolding Fine
  text_fine d b h = (b, h)

  name_fine : (s : List ℕ) → Fine n (name s)
  unfolding Fine
  name_fine s = tt

  kind_part : (l : List ℕ) (f : Field) (r : List ℕ) → Bytes l → length l ≤ n → field_of l ≡ ok f r → Fine n f × Part r l
  unfolding field_of FineSeen
  kind_part [] f r b s e = not_ok e
  kind_part (c ∷ l) f r b s e =
      pick_cases (eqb c 34) _ _ _ e
      (λ t q. and_then_ok (read_quoted l plain) _ f r q (λ d m qd k.
      let z = quoted_part l plain d m b.1 tt qd in
      finish_part (quoted d) f (c ∷ l) m r (z.2.0, omega arith) (text_fine d z.0 (omega arith)) k))
      (λ n1 e1.
      pick_cases (eqb c 45) _ _ _ e1
      (λ t q. and_then_ok (read_number l) _ f r q (λ i m qi k.
      let z = number_part l i m b.1 qi in
      finish_part (negative i) f (c ∷ l) m r (z.1.0, omega arith) (negative_fine i z.0) k))
      (λ n2 e2.
      pick_cases (is_digit c) _ _ _ e2
      (λ t q. and_then_ok (read_number (c ∷ l)) _ f r q (λ i m qi k.
      let z = number_part (c ∷ l) i m b qi in
      finish_part (num i) f (c ∷ l) m r z.1 (num_fine i z.0) k))
      (λ n3 e3.
      pick_cases (is_letter c) _ _ _ e3
      (λ t q. and_then_ok (read_name (c ∷ l)) _ f r q (λ i m qi k.
      finish_part (name i) f (c ∷ l) m r (name_part (c ∷ l) i m b qi) (name_fine i) k))
      (λ t q. not_ok q))))

  pub field_part : (l : List ℕ) (f : Field) (r : List ℕ) → Bytes l → length l ≤ n → read_field l ≡ ok f r → Fine n f × Part r l
  unfolding read_field
  field_part l f r b s e =
      let k = skip_part l b in
      let z = kind_part (skip l) f r k.0 (omega arith) e in
      (z.0, (z.1.0, omega arith))
