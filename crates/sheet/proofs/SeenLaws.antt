-- The bytes of a part, one after the other: what is passed by one byte, and what is reached by several.
use mathlib.Core.Path.{◌≡◌, refl, sym, ap, ap₂, ◌∙◌}
use Prim.Native.Nat.{ℕ, suc, ◌+◌, ◌-◌, ◌<◌, ◌≤◌}
use mathlib.Core.Bool.{Bool, true, false}
use mathlib.Core.List.{List, [], ◌∷◌, ◌++◌, append_assoc, append-nil}
use native.Mathlib.Omega.{arith}
use native.Mathlib.Numerals.{add-one}
use lib.ListN.{length, take, drop, get_or, length-drop, drop_of_length-le}
use lib.Seq.{drop-cons, take-add, take_all, drop-drop}
use lib.Dec.{eqb, ltb}
use borrow.Author.Tests.{eq-eqb, ne_eqb, ltb-true, ltb-false}
use Rattle.event.specs.Choice.{pick}
use Rattle.event.proofs.ChoiceLaws.{by_test, pick_true, pick_false}
use Rattle.sheet.specs.Code.Seen.{singled, seen, slice, Passed, Reached}

-- ---- the first byte

pub seen_none : (twice : Bool) → seen twice [] ≡ []
unfolding seen singled pick
seen_none true = refl
seen_none false = refl

pub seen_other : (twice : Bool) (x : ℕ) (l : List ℕ) → eqb x 34 ≡ false → seen twice (x ∷ l) ≡ x ∷ seen twice l
unfolding seen singled pick
seen_other false x l e = refl
seen_other true x [] e = refl
seen_other true x (d ∷ l) e = pick_false _ _ e

pub seen_first : (twice : Bool) (x : ℕ) (l : List ℕ) → (m : List ℕ) × (seen twice (x ∷ l) ≡ x ∷ m)
unfolding seen singled pick
seen_first false x l = (l, refl)
seen_first true x [] = ([], refl)
seen_first true x (d ∷ l) = by_test (eqb x 34) (λ e. (singled l, pick_true _ _ e)) (λ e. (singled (d ∷ l), pick_false _ _ e))

seen_pair : (x y : ℕ) (l : List ℕ) → x ≡ 34 → seen true (x ∷ y ∷ l) ≡ x ∷ seen true l
unfolding seen singled pick
seen_pair x y l e = pick_true _ _ (eq-eqb x 34 e)

seen_last : (x : ℕ) → seen true (x ∷ []) ≡ x ∷ seen true []
unfolding seen singled pick
seen_last x = refl

seen_same : (l : List ℕ) → seen false l ≡ l
unfolding seen pick
seen_same l = refl

-- the byte at a place is the first that is seen from there on
pub seen_at : (twice : Bool) (l : List ℕ) (p : ℕ) → p < length l → (m : List ℕ) × (seen twice (drop p l) ≡ get_or l p 0 ∷ m)
seen_at twice l p h =
    let (m, e) = seen_first twice (get_or l p 0) (drop (suc p) l) in
    (m, ap (seen twice) (drop-cons l p 0 h) ∙ e)

-- past the end nothing is seen
pub seen_past : (twice : Bool) (l : List ℕ) (p : ℕ) → length l ≤ p → seen twice (drop p l) ≡ []
seen_past twice l p h = ap (seen twice) (drop_of_length-le l h) ∙ seen_none twice

-- ---- slices

slice_one : (l : List ℕ) (at : ℕ) → at < length l → slice at (at + 1) l ≡ get_or l at 0 ∷ []
slice_one l at h = let e : at + 1 - at ≡ 1 = omega arith in ap₂ take e (drop-cons l at 0 h)

slice_two : (l : List ℕ) (at : ℕ) → at + 1 < length l → slice at (at + 2) l ≡ get_or l at 0 ∷ get_or l (at + 1) 0 ∷ []
slice_two l at h =
    let e : at + 2 - at ≡ 2 = omega arith in
    let n : suc at ≡ at + 1 = omega arith in
    ap₂ take e (drop-cons l at 0 (omega arith) ∙ ap (λ z. get_or l at 0 ∷ drop z l) n ∙ ap (λ z. get_or l at 0 ∷ z) (drop-cons l (at + 1) 0 h))

slice_join : (l : List ℕ) (a b n : ℕ) → a ≤ b → b ≤ n → slice a n l ≡ slice a b l ++ slice b n l
slice_join l a b n h k =
    let e : n - a ≡ (b - a) + (n - b) = omega arith in
    let f : a + (b - a) ≡ b = omega arith in
    ap (λ z. take z (drop a l)) e ∙ take-add (b - a) (n - b) (drop a l) ∙ ap (λ z. slice a b l ++ take (n - b) z) (drop-drop (b - a) a l ∙ ap (λ z. drop z l) f)

-- ---- the place after a byte

pub passed_one : (l : List ℕ) (at : ℕ) → at < length l → Passed false l at (at + 1)
passed_one l at h = record {
  rest = rw (seen_same (drop at l), seen_same (drop (at + 1) l), add-one at) (drop-cons l at 0 h);
  later = omega arith;
  inside = omega arith;
  whole = λ k m. rw (slice_one l at h, seen_same (get_or l at 0 ∷ m), seen_same m) refl;
}

pub passed_other : (twice : Bool) (l : List ℕ) (at : ℕ) → at < length l → (get_or l at 0 ≡ 34 → ⊥) → Passed twice l at (at + 1)
passed_other twice l at h n =
    let e = ne_eqb (get_or l at 0) 34 n in
    record {
      rest = rw (add-one at, drop-cons l at 0 h) (seen_other twice (get_or l at 0) (drop (suc at) l) e);
      later = omega arith;
      inside = omega arith;
      whole = λ k m. rw (slice_one l at h) (seen_other twice (get_or l at 0) m e);
    }

pub passed_last : (l : List ℕ) (at : ℕ) → at < length l → length l ≤ at + 1 → Passed true l at (at + 1)
passed_last l at h k = record {
  rest =
      let q : length l ≤ suc at = omega arith in
      let d : drop (suc at) l ≡ [] = drop_of_length-le l q in
      rw (add-one at, drop-cons l at 0 h, d) (seen_last (get_or l at 0));
  later = omega arith;
  inside = omega arith;
  whole = λ z. absurd (omega arith);
}

pub passed_two : (l : List ℕ) (at : ℕ) → get_or l at 0 ≡ 34 → at + 1 < length l → Passed true l at (at + 2)
passed_two l at e h =
    let n : suc at ≡ at + 1 = omega arith in
    let m : suc (at + 1) ≡ at + 2 = omega arith in
    let d : drop at l ≡ get_or l at 0 ∷ get_or l (at + 1) 0 ∷ drop (at + 2) l =
    drop-cons l at 0 (omega arith) ∙ ap (λ z. get_or l at 0 ∷ drop z l) n ∙ ap (λ z. get_or l at 0 ∷ z) (drop-cons l (at + 1) 0 h ∙ ap (λ z. get_or l (at + 1) 0 ∷ drop z l) m) in
    record {
      rest = ap (seen true) d ∙ seen_pair (get_or l at 0) (get_or l (at + 1) 0) (drop (at + 2) l) e;
      later = omega arith;
      inside = omega arith;
      whole = λ k r. rw (slice_two l at h) (seen_pair (get_or l at 0) (get_or l (at + 1) 0) r e);
    }

-- what was passed is the one byte
passed_piece : {twice : Bool} {l : List ℕ} {at next : ℕ} → Passed twice l at next → seen twice (slice at next l) ≡ get_or l at 0 ∷ []
passed_piece {twice} {l} {at} {next} p =
    by_test (ltb next (length l))
    (λ t. ap (seen twice) (sym (append-nil (slice at next l))) ∙ p.whole (ltb-true next (length l) t) [] ∙ ap (λ z. get_or l at 0 ∷ z) (seen_none twice))
    (λ t.
    let k = ltb-false next (length l) t in
    let n : length (drop at l) ≤ next - at = omega (arith, length-drop at l) in
    ap (seen twice) (take_all (next - at) (drop at l) n) ∙ p.rest ∙ ap (λ z. get_or l at 0 ∷ z) (seen_past twice l next k))

-- ---- places that are reached

pub reached_first : (twice : Bool) (l : List ℕ) (a : ℕ) → a ≤ length l → (seen twice (slice a a l) ≡ []) × Reached twice l a a
reached_first twice l a h =
    let z : a - a ≡ 0 = omega arith in
    let e : slice a a l ≡ [] = ap (λ n. take n (drop a l)) z in
    let s : seen twice (slice a a l) ≡ [] = ap (seen twice) e ∙ seen_none twice in (
      s,
      record {
        rest = sym (ap (λ y. y ++ seen twice (drop a l)) s);
        later = omega arith;
        inside = h;
        whole = λ k m. ap (λ y. seen twice (y ++ m)) e ∙ sym (ap (λ y. y ++ seen twice m) s);
      },
    )

-- by a byte more
module _ {twice : Bool} {l : List ℕ} {a b n : ℕ} (r : Reached twice l a b) (h : b < length l) (p : Passed twice l b n) where
  pub grown : seen twice (slice a n l) ≡ seen twice (slice a b l) ++ (get_or l b 0 ∷ [])
  grown =
      let k = p.later in
      ap (seen twice) (slice_join l a b n r.later (omega arith)) ∙ r.whole h (slice b n l) ∙ ap (λ z. seen twice (slice a b l) ++ z) (passed_piece p)

  further : (m : List ℕ) → seen twice (slice a n l) ++ m ≡ seen twice (slice a b l) ++ (get_or l b 0 ∷ m)
  further m = ap (λ z. z ++ m) grown ∙ append_assoc (seen twice (slice a b l)) (get_or l b 0 ∷ []) m

  pub reached_on : Reached twice l a n
  reached_on =
      let k = p.later in
      let j = r.later in
      record {
        rest = r.rest ∙ ap (λ z. seen twice (slice a b l) ++ z) p.rest ∙ sym (further (seen twice (drop n l)));
        later = omega arith;
        inside = p.inside;
        whole = λ i m.
            ap (λ z. seen twice (z ++ m)) (slice_join l a b n j (omega arith))
            ∙ ap (seen twice) (append_assoc (slice a b l) (slice b n l) m)
            ∙ r.whole h (slice b n l ++ m)
            ∙ ap (λ z. seen twice (slice a b l) ++ z) (p.whole i m)
            ∙ sym (further (seen twice m));
      }
