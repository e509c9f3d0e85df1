-- Events by Time: nothing lost, nothing doubled, Times never fall, equal Times in the order in which they stood; and these
-- determine the list.
use mathlib.Core.Path.{◌≡◌, refl, sym, ap, ap₂, ◌∙◌}
use Prim.Native.Nat.{ℕ, ◌≤◌, ◌<◌}
use mathlib.Core.List.Permᴰ
use mathlib.Core.List.{List, [], ◌∷◌, ◌++◌, Permᴰ}
use native.Mathlib.Omega.{arith}
use lib.Dec.{leb, eqb}
use borrow.Author.Tests.{le-leb, lt-leb, leb-true, leb-false, eq-eqb, ne_eqb, eqb-true}
use Rattle.event.specs.Choice.{pick}
use Rattle.event.specs.Event.{Event}
use Rattle.event.proofs.ChoiceLaws.{by_test}
use Rattle.fold_piece.specs.Fold.{insert, by_time}
use Rattle.fold_piece.specs.Order.{Rising, at}

-- ---- what is said of every event

unfoldable pub All : (Event → Type 0) → List Event → Type 0
All P [] = Unit {0}
All P (e ∷ es) = P e × All P es

module _ (P : Event → Type 0) where
  pub all_append : (xs ys : List Event) → All P xs → All P ys → All P (xs ++ ys)
  unfolding All
  all_append [] ys h g = g
  all_append (x ∷ xs) ys h g = (h.0, all_append xs ys h.1 g)

  pub all_insert : (e : Event) (xs : List Event) → P e → All P xs → All P (insert e xs)
  unfolding All insert pick
  all_insert e [] p h = (p, tt)
  all_insert e (x ∷ xs) p h =
      by_test (leb e.time x.time) (λ t. rw t (p, h)) (λ t. rw t (h.0, all_insert e xs p h.1))

  pub all_by_time : (es : List Event) → All P es → All P (by_time es)
  unfolding All by_time
  all_by_time [] h = tt
  all_by_time (e ∷ es) h = all_insert e (by_time es) h.0 (all_by_time es h.1)

pub all_weaken : (P Q : Event → Type 0) → ((e : Event) → P e → Q e) → (es : List Event) → All P es → All Q es
unfolding All
all_weaken P Q f [] h = tt
all_weaken P Q f (e ∷ es) h = (f e h.0, all_weaken P Q f es h.1)

-- ---- Times never fall, from the Time prev on

abbrev pub NotBefore : ℕ → Event → Type 0
NotBefore t e = t ≤ e.time

pub rising_all : (prev : ℕ) (es : List Event) → Rising prev es → All (NotBefore prev) es
unfolding Rising All
rising_all prev [] h = tt
rising_all prev (e ∷ es) h = (h.0, all_weaken (NotBefore e.time) (NotBefore prev) (λ x g. omega (arith, h.0, g)) es (rising_all e.time es h.1))

rising_insert : (prev : ℕ) (e : Event) (xs : List Event) → prev ≤ e.time → Rising prev xs → Rising prev (insert e xs)
unfolding Rising insert pick
rising_insert prev e [] p h = (p, tt)
rising_insert prev e (x ∷ xs) p h =
    by_test (leb e.time x.time) (λ t. rw t (p, (leb-true e.time x.time t, h.1)))
    (λ t. let g = leb-false e.time x.time t in rw t (h.0, rising_insert x.time e xs (omega arith) h.1))

pub rising_by_time : (prev : ℕ) (es : List Event) → All (NotBefore prev) es → Rising prev (by_time es)
unfolding All Rising by_time
rising_by_time prev [] h = tt
rising_by_time prev (e ∷ es) h = rising_insert prev e (by_time es) h.0 (rising_by_time prev es h.1)

-- ---- each event once

perm_insert : (e : Event) (xs : List Event) → Permᴰ (insert e xs) (e ∷ xs)
unfolding insert pick
perm_insert e [] = Permᴰ.refl (e ∷ [])
perm_insert e (x ∷ xs) =
    by_test (leb e.time x.time) (λ t. rw t (Permᴰ.refl (e ∷ (x ∷ xs))))
    (λ t. rw t (Permᴰ.trans (Permᴰ.cons refl (perm_insert e xs)) (Permᴰ.swap refl refl)))

-- nothing lost, nothing doubled
pub perm_by_time : (es : List Event) → Permᴰ (by_time es) es
unfolding by_time
perm_by_time [] = Permᴰ.nil
perm_by_time (e ∷ es) = Permᴰ.trans (perm_insert e (by_time es)) (Permᴰ.cons refl (perm_by_time es))

-- ---- the events at one Time, in the order in which they stand

pub at_append : (t : ℕ) (xs ys : List Event) → at t (xs ++ ys) ≡ at t xs ++ at t ys
unfolding at pick
at_append t [] ys = refl
at_append t (x ∷ xs) ys = by_test (eqb x.time t) (λ b. rw b (ap (λ z. x ∷ z) (at_append t xs ys))) (λ b. rw b (at_append t xs ys))

at_insert : (t : ℕ) (e : Event) (xs : List Event) → at t (insert e xs) ≡ at t (e ∷ xs)
unfolding at insert pick
at_insert t e [] = refl
at_insert t e (x ∷ xs) =
    by_test (leb e.time x.time) (λ b. rw b refl)
    (λ b.
    let g = leb-false e.time x.time b in
    let h = at_insert t e xs in
    by_test (eqb e.time t)
    (λ c. let w = ne_eqb x.time t (λ z. omega (arith, eqb-true e.time t c)) in rw (b, c, w) (rw c at h))
    (λ c. rw (b, c) (ap (λ z. pick (eqb x.time t) (x ∷ z) z) (rw c at h))))

-- "equal Times .. in their own order": at each Time the same events in the same order
pub at_by_time : (t : ℕ) (es : List Event) → at t (by_time es) ≡ at t es
unfolding at by_time
at_by_time t [] = refl
at_by_time t (e ∷ es) = at_insert t e (by_time es) ∙ ap (λ z. pick (eqb e.time t) (e ∷ z) z) (at_by_time t es)

-- ---- events that rise are left as they are

insert_first : (e : Event) (xs : List Event) → All (NotBefore e.time) xs → insert e xs ≡ e ∷ xs
unfolding insert All pick
insert_first e [] h = refl
insert_first e (x ∷ xs) h = rw (le-leb e.time x.time h.0) refl

pub by_time_rising : (prev : ℕ) (es : List Event) → Rising prev es → by_time es ≡ es
unfolding by_time Rising
by_time_rising prev [] h = refl
by_time_rising prev (e ∷ es) h = ap (insert e) (by_time_rising e.time es h.1) ∙ insert_first e es (rising_all e.time es h.1)

-- ---- the first of the least: the step of a merge

abbrev pub After : ℕ → Event → Type 0
After t e = t < e.time

pub take_least : (xs : List Event) (e : Event) (ys : List Event) → All (After e.time) xs → All (NotBefore e.time) ys
    → by_time (xs ++ (e ∷ ys)) ≡ e ∷ by_time (xs ++ ys)
unfolding by_time All insert pick
take_least [] e ys h g = insert_first e (by_time ys) (all_by_time (NotBefore e.time) ys g)
take_least (x ∷ xs) e ys h g = ap (insert x) (take_least xs e ys h.1 g) ∙ rw (lt-leb x.time e.time h.0) refl

-- ---- these determine the list: two that rise and agree at each Time are the same

at_later : (t : ℕ) (es : List Event) → All (After t) es → at t es ≡ []
unfolding at All pick
at_later t [] h = refl
at_later t (e ∷ es) h = rw (ne_eqb e.time t (λ z. omega (arith, h.0, z))) (at_later t es h.1)

rising_after : (t : ℕ) (e : Event) (es : List Event) → Rising e.time es → t < e.time → at t (e ∷ es) ≡ []
unfolding All
rising_after t e es h g = at_later t (e ∷ es) (g, all_weaken (NotBefore e.time) (After t) (λ x k. omega (arith, g, k)) es (rising_all e.time es h))

at_head : (e : Event) (es : List Event) → at e.time (e ∷ es) ≡ e ∷ at e.time es
unfolding at pick
at_head e es = rw (eq-eqb e.time e.time refl) refl

no_cons : {X : Type 0} {e : Event} {es : List Event} → ◌≡◌ {A = List Event} [] (e ∷ es) → X
no_cons q = let z : ◌≡◌ {A = ℕ} 0 1 = cc in absurd (omega arith)

at_tail : (t : ℕ) (e : Event) (xs ys : List Event) → at t (e ∷ xs) ≡ at t (e ∷ ys) → at t xs ≡ at t ys
unfolding at pick
at_tail t e xs ys q = by_test (eqb e.time t) (λ b. let p = rw b at q in cc) (λ b. rw b at q)

module _ (x y : Event) (xs ys : List Event) (g : Rising x.time xs) (h : Rising y.time ys) (q : (t : ℕ) → at t (x ∷ xs) ≡ at t (y ∷ ys)) where
  same_head : x ≡ y
  same_head =
      by_test (leb x.time y.time)
      (λ a.
      by_test (leb y.time x.time)
      (λ b.
      let k : x.time ≡ y.time = omega (arith, leb-true x.time y.time a, leb-true y.time x.time b) in
      let p : x ∷ at x.time xs ≡ y ∷ at y.time ys = sym (at_head x xs) ∙ q x.time ∙ ap (λ t. at t (y ∷ ys)) k ∙ at_head y ys in
      cc)
      (λ b. no_cons (sym (rising_after x.time y ys h (leb-false y.time x.time b)) ∙ sym (q x.time) ∙ at_head x xs)))
      (λ a. no_cons (sym (rising_after y.time x xs g (leb-false x.time y.time a)) ∙ q y.time ∙ at_head y ys))

pub only_one : (prev : ℕ) (xs ys : List Event) → Rising prev xs → Rising prev ys → ((t : ℕ) → at t xs ≡ at t ys) → xs ≡ ys
unfolding Rising at
only_one prev [] [] h g q = refl
only_one prev [] (y ∷ ys) h g q = no_cons (q y.time ∙ at_head y ys)
only_one prev (x ∷ xs) [] h g q = no_cons (sym (q x.time) ∙ at_head x xs)
only_one prev (x ∷ xs) (y ∷ ys) h g q =
    let e : x ≡ y = same_head x y xs ys h.1 g.1 q in
    ap₂ (λ a b. a ∷ b) e
    (only_one x.time xs ys h.1 (rw (← e) at g.1) (λ t. at_tail t x xs ys (q t ∙ ap (λ z. at t (z ∷ ys)) (sym e))))
