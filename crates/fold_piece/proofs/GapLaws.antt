-- Steps in Time: where no track steps too far, events by Time do not.
use Prim.Native.Nat.{ℕ, ◌+◌, ◌≤◌, ◌<◌}
use mathlib.Core.List.{List, [], ◌∷◌, ◌++◌}
use mathlib.Core.Logic.{◌⊎◌, inl, inr, ⊎_elim}
use native.Mathlib.Omega.{arith}
use lib.Dec.{leb}
use borrow.Author.Tests.{leb-true, leb-false}
use Rattle.event.specs.Choice.{pick}
use Rattle.event.specs.Event.{Event}
use Rattle.event.proofs.ChoiceLaws.{by_test}
use Rattle.fold_piece.specs.Fold.{insert, by_time}
use Rattle.fold_piece.specs.Order.{Rising, longest, Steps}
use Rattle.fold_piece.proofs.OrderLaws.{All, NotBefore, rising_all}

-- ---- what is said of some event

unfoldable pub Some : (Event → Type 0) → List Event → Type 0
Some P [] = ⊥
Some P (e ∷ es) = P e ⊎ Some P es

module _ (P : Event → Type 0) where
  pub some_left : (xs ys : List Event) → Some P xs → Some P (xs ++ ys)
  unfolding Some
  some_left [] ys h = absurd h
  some_left (x ∷ xs) ys h = ⊎_elim (λ p. inl p) (λ s. inr (some_left xs ys s)) h

  pub some_right : (xs ys : List Event) → Some P ys → Some P (xs ++ ys)
  unfolding Some
  some_right [] ys h = h
  some_right (x ∷ xs) ys h = inr (some_right xs ys h)

  pub some_either : {X : Type 0} (xs ys : List Event) → Some P (xs ++ ys) → (Some P xs → X) → (Some P ys → X) → X
  unfolding Some
  some_either [] ys h f g = g h
  some_either (x ∷ xs) ys h f g = ⊎_elim (λ p. f (inl p)) (λ s. some_either xs ys s (λ z. f (inr z)) g) h

  some_insert : (e : Event) (xs : List Event) → P e ⊎ Some P xs → Some P (insert e xs)
  unfolding Some insert pick
  some_insert e [] h = h
  some_insert e (x ∷ xs) h =
      by_test (leb e.time x.time) (λ t. rw t h)
      (λ t. rw t (⊎_elim (λ p. inr (some_insert e xs (inl p))) (λ s. ⊎_elim (λ q. inl q) (λ r. inr (some_insert e xs (inr r))) s) h))

  some_inserted : (e : Event) (xs : List Event) → Some P (insert e xs) → P e ⊎ Some P xs
  unfolding Some insert pick
  some_inserted e [] h = h
  some_inserted e (x ∷ xs) h =
      by_test (leb e.time x.time) (λ t. rw t at h)
      (λ t. ⊎_elim (λ q. inr (inl q)) (λ s. ⊎_elim (λ p. inl p) (λ r. inr (inr r)) (some_inserted e xs s)) (rw t at h))

  pub some_by_time : (es : List Event) → Some P es → Some P (by_time es)
  unfolding Some by_time
  some_by_time [] h = h
  some_by_time (e ∷ es) h = some_insert e (by_time es) (⊎_elim (λ p. inl p) (λ s. inr (some_by_time es s)) h)

  pub some_timed : (es : List Event) → Some P (by_time es) → Some P es
  unfolding Some by_time
  some_timed [] h = h
  some_timed (e ∷ es) h = ⊎_elim (λ p. inl p) (λ s. inr (some_timed es s)) (some_inserted e (by_time es) h)

-- ---- no gap: above any Time c that some event is above, there is one within the longest step

abbrev pub Above : ℕ → Event → Type 0
Above c e = c < e.time

abbrev pub Near : ℕ → Event → Type 0
Near c e = (c < e.time) × (e.time ≤ c + longest)

pub steps_gap : (prev c : ℕ) (es : List Event) → prev ≤ c → Steps prev es → Some (Above c) es → Some (Near c) es
unfolding Steps Some
steps_gap prev c [] h g s = s
steps_gap prev c (e ∷ es) h g s =
    by_test (leb e.time c)
    (λ t. let k = leb-true e.time c t in ⊎_elim (λ a. absurd (omega (arith, a, k))) (λ r. inr (steps_gap e.time c es k g.1 r)) s)
    (λ t. inl (leb-false e.time c t, omega (arith, g.0, h)))

near_first : (c t : ℕ) (es : List Event) → Some (Near c) es → All (NotBefore t) es → t ≤ c + longest
unfolding Some All
near_first c t [] s a = absurd s
near_first c t (e ∷ es) s a = ⊎_elim (λ n. omega (arith, n.1, a.0)) (λ r. near_first c t es r a.1) s

pub gap_steps : (prev : ℕ) (es : List Event) → Rising prev es → ((c : ℕ) → prev ≤ c → Some (Above c) es → Some (Near c) es) → Steps prev es
unfolding Steps Some Rising
gap_steps prev [] h g = tt
gap_steps prev (e ∷ es) h g = (
  by_test (leb e.time prev) (λ t. let k = leb-true e.time prev t in omega arith)
      (λ t. ⊎_elim (λ (n : Near prev e). n.1) (λ r. near_first prev e.time es r (rising_all e.time es h.1)) (g prev (omega arith) (inl (leb-false e.time prev t)))),
  gap_steps e.time es h.1
      (λ c k s. ⊎_elim (λ (n : Near c e). absurd (omega (arith, n.0, k))) (λ r. r) (g c (omega (arith, h.0, k)) (inr s))),
)
