-- The loop over a number's digits, and the number they make.
use mathlib.Core.Path.{◌≡◌, refl, sym, ap, ◌∙◌}
use Prim.Native.Nat.{ℕ, zero, suc, ◌+◌, ◌-◌, ◌*◌, ◌<◌, ◌≤◌}
use mathlib.Core.Bool.{true, false}
use Rattle.std.proofs.Common.{Option, Some, None}
use mathlib.Core.List.{List, [], ◌∷◌}
use native.Mathlib.Omega.{arith}
use native.Mathlib.Numerals.{add-one}
use lib.ListN.{length, drop, get_or, drop_of_length-le}
use lib.Seq.{drop-cons}
use lib.Dec.{leb}
use borrow.Author.Tests.{leb-true, leb-false, le-leb, lt-leb}
use Rattle.event.specs.Outcome.{Outcome, ok, refused, and_then, check}
use Rattle.event.proofs.ChoiceLaws.{pick_true, pick_false, and_both, by_test}
use Rattle.midicsv.specs.ReadField.{is_digit, read_digits, read_number}
use Rattle.midicsv.proofs.FieldLaws.{ten}
use Rattle.midicsv_scan.specs.Part.{number_as, NumberWithin, number_as}

-- ---- a digit

pub digit_range : (c : ℕ) → is_digit c ≡ true → (48 ≤ c) × (c ≤ 57)
unfolding is_digit
digit_range c t = let (a, b) = and_both (leb 48 c) (leb c 57) t in (leb-true 48 c a, leb-true c 57 b)

no_more : (k acc : ℕ) → read_digits k acc [] ≡ ok acc []
unfolding read_digits
no_more zero acc = refl
no_more (suc k) acc = refl

no_digit : (k acc c : ℕ) (l : List ℕ) → is_digit c ≡ false → read_digits k acc (c ∷ l) ≡ ok acc (c ∷ l)
unfolding read_digits
no_digit zero acc c l t = pick_false _ _ t
no_digit (suc k) acc c l t = pick_false _ _ t

a_digit : (k acc c : ℕ) (l : List ℕ) → is_digit c ≡ true → read_digits (suc k) acc (c ∷ l) ≡ read_digits k (acc * 10 + (c - 48)) l
unfolding read_digits
a_digit k acc c l t = pick_true _ _ t

one_over : (acc c : ℕ) (l : List ℕ) → is_digit c ≡ true → read_digits 0 acc (c ∷ l) ≡ refused 22 0
unfolding read_digits
one_over acc c l t = pick_true _ _ t

ten_most : (i k : ℕ) → i ≤ k → ten i ≤ ten k
ten_most i zero h = let z : i ≡ 0 = omega arith in rw z (omega arith)
ten_most i (suc k) h =
    by_test (leb i k) (λ t. let q = ten_most i k (leb-true i k t) in omega arith)
    (λ t. let j : i ≡ suc k = omega (arith, leb-false i k t) in rw j (omega arith))

-- ---- the loop: the digits from at to p made this value

pub record Going (l : List ℕ) (at value p : ℕ) : Type 0 where
  pub low : at ≤ p
  pub high : p ≤ length l
  pub few : p - at ≤ 10
  pub small : value < ten (p - at)
  pub same : read_digits 10 0 (drop at l) ≡ read_digits (10 - (p - at)) value (drop p l)

-- what is answered of a run of digits
abbrev pub DigitsAt : List ℕ → ℕ → Option (ℕ × ℕ) → Type 0
DigitsAt l at r = record { fact_1 : number_as l r ≡ read_digits 10 0 (drop at l); fact_2 : NumberWithin l at r }

pub going_first : (l : List ℕ) (at : ℕ) → at ≤ length l → Going l at 0 at
going_first l at h =
    let z : at - at ≡ 0 = omega arith in
    record { low = omega arith; high = h; few = omega arith; small = rw z (omega arith); same = rw z }

pub going_small : {l : List ℕ} {at value p : ℕ} → Going l at value p → value < 10000000000
going_small {at = at} {p = p} g = omega (arith, g.small, ten_most (p - at) 10 g.few)

module _ {l : List ℕ} {at value p : ℕ} (g : Going l at value p) where
  here : p < length l → read_digits 10 0 (drop at l) ≡ read_digits (10 - (p - at)) value (get_or l p 0 ∷ drop (suc p) l)
  here h = g.same ∙ ap (read_digits (10 - (p - at)) value) (drop-cons l p 0 h)

  pub going_on : p < length l → is_digit (get_or l p 0) ≡ true → p - at < 10 → Going l at (value * 10 + (get_or l p 0 - 48)) (p + 1)
  going_on h t f =
      let low = g.low in
      let d = digit_range (get_or l p 0) t in
      let k : 10 - (p - at) ≡ suc (10 - (p + 1 - at)) = omega arith in
      let n : p + 1 - at ≡ suc (p - at) = omega arith in
      let s : value * 10 + (get_or l p 0 - 48) < ten (suc (p - at)) = omega (arith, g.small) in
      let e : read_digits 10 0 (drop at l) ≡ read_digits (suc (10 - (p + 1 - at))) value (get_or l p 0 ∷ drop (suc p) l) = rw k at (here h) in
      record {
        low = omega arith;
        high = omega arith;
        few = omega arith;
        small = rw n s;
        same = e ∙ a_digit (10 - (p + 1 - at)) value (get_or l p 0) (drop (suc p) l) t ∙ ap (λ i. read_digits (10 - (p + 1 - at)) (value * 10 + (get_or l p 0 - 48)) (drop i l)) (sym (add-one p));
      }

  pub going_stop : p < length l → is_digit (get_or l p 0) ≡ false → DigitsAt l at (Some (value, p))
  unfolding number_as
  going_stop h t =
      record {
        fact_1 = ap (ok value) (drop-cons l p 0 h) ∙ sym (here h ∙ no_digit (10 - (p - at)) value (get_or l p 0) (drop (suc p) l) t);
        fact_2 = (g.low, g.high);
      }

  pub going_over : p < length l → is_digit (get_or l p 0) ≡ true → 10 ≤ p - at → DigitsAt l at None
  unfolding number_as
  going_over h t m =
      let f = g.few in
      let z : 10 - (p - at) ≡ 0 = omega arith in
      record { fact_1 = sym ((rw z at (here h)) ∙ one_over value (get_or l p 0) (drop (suc p) l) t); fact_2 = tt }

  pub going_end : length l ≤ p → DigitsAt l at (Some (value, length l))
  unfolding number_as
  going_end h =
      let low = g.low in
      let m : drop (length l) l ≡ [] = drop_of_length-le l (omega arith) in
      let n : drop p l ≡ [] = drop_of_length-le l h in
      record {
        fact_1 = ap (ok value) m ∙ sym (g.same ∙ ap (read_digits (10 - (p - at)) value) n ∙ no_more (10 - (p - at)) value);
        fact_2 = (omega arith, omega arith);
      }

-- ---- the number

pub number_none : (l : List ℕ) (at : ℕ) → length l ≤ at → number_as l None ≡ read_number (drop at l)
unfolding number_as read_number
number_none l at h = rw (drop_of_length-le l h)

module _ (l : List ℕ) (at : ℕ) (h : at < length l) where
  pub number_other : is_digit (get_or l at 0) ≡ false → number_as l None ≡ read_number (drop at l)
  unfolding number_as read_number check
  number_other t = rw (drop-cons l at 0 h, t)

  module _ (t : is_digit (get_or l at 0) ≡ true) where
    of_digits : (m : Outcome ℕ) → m ≡ read_digits 10 0 (drop at l) → and_then m (λ n r. check (leb n 4294967295) 22 0 (ok n r)) ≡ read_number (drop at l)
    unfolding read_number check
    of_digits m e = rw (e, drop-cons l at 0 h, t)

    pub number_many : number_as l None ≡ read_digits 10 0 (drop at l) → number_as l None ≡ read_number (drop at l)
    unfolding number_as and_then
    number_many e = of_digits _ e

    module _ (value next : ℕ) (e : number_as l (Some (value, next)) ≡ read_digits 10 0 (drop at l)) where
      pub number_large : 4294967295 < value → number_as l None ≡ read_number (drop at l)
      unfolding number_as and_then check
      number_large m =
          let u : refused 22 0 ≡ check (leb value 4294967295) 22 0 (ok value (drop next l)) = rw (lt-leb value 4294967295 m) in
          u ∙ of_digits _ e

      pub number_is : value ≤ 4294967295 → number_as l (Some (value, next)) ≡ read_number (drop at l)
      unfolding number_as and_then check
      number_is m =
          let u : ok value (drop next l) ≡ check (leb value 4294967295) 22 0 (ok value (drop next l)) = rw (le-leb value 4294967295 m) in
          u ∙ of_digits _ e
