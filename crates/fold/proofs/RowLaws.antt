-- The search for the row to take: what it answers.
use mathlib.Core.Path.{◌≡◌, refl, sym, ap, ◌∙◌, subst}
use Prim.Native.Nat.{ℕ, zero, suc, ◌+◌, ◌-◌, ◌≤◌, ◌<◌}
use mathlib.Core.Logic.{◌⊎◌, inl, inr, ⊎_elim}
use mathlib.Core.List.{List}
use native.Mathlib.Omega.{arith}
use lib.Dec.{eqb, ltb}
use lib.ListN.{length, get_or, set}
use borrow.Author.Tests.{eq-eqb, ne_eqb, eqb-true, eqb-false, lt-ltb, le-ltb, ltb-true, ltb-false}
use Rattle.event.specs.Choice.{pick}
use Rattle.event.proofs.ChoiceLaws.{by_test}
use lib.Seq.{get_or-set_same, get_or-set_other}
use Rattle.fold.specs.Code.Search.{least_after, least_from, least_of, nearer}

module _ (n : ℕ) (ts ss : List ℕ) (best i : ℕ) where
  pub nearer_closed : get_or ss i 0 ≡ 1 → nearer n ts ss best i ≡ best
  unfolding nearer pick
  nearer_closed h = rw (eq-eqb (get_or ss i 0) 1 h) refl

  pub nearer_none : (get_or ss i 0 ≡ 1 → ⊥) → best ≡ n → nearer n ts ss best i ≡ i
  unfolding nearer pick
  nearer_none h g = rw (ne_eqb (get_or ss i 0) 1 h, eq-eqb best n g) refl

  pub nearer_less : (get_or ss i 0 ≡ 1 → ⊥) → (best ≡ n → ⊥) → get_or ts i 0 < get_or ts best 0 → nearer n ts ss best i ≡ i
  unfolding nearer pick
  nearer_less h g k = rw (ne_eqb (get_or ss i 0) 1 h, ne_eqb best n g, lt-ltb (get_or ts i 0) (get_or ts best 0) k) refl

  pub nearer_keep : (get_or ss i 0 ≡ 1 → ⊥) → (best ≡ n → ⊥) → get_or ts best 0 ≤ get_or ts i 0 → nearer n ts ss best i ≡ best
  unfolding nearer pick
  nearer_keep h g k = rw (ne_eqb (get_or ss i 0) 1 h, ne_eqb best n g, le-ltb (get_or ts i 0) (get_or ts best 0) k) refl

  -- the Time looked at before the status
  pub nearer_late : (best ≡ n → ⊥) → get_or ts best 0 ≤ get_or ts i 0 → nearer n ts ss best i ≡ best
  nearer_late g k = by_test (eqb (get_or ss i 0) 1) (λ a. nearer_closed (eqb-true (get_or ss i 0) 1 a)) (λ a. nearer_keep (eqb-false (get_or ss i 0) 1 a) g k)

  -- by cases
  pub nearer_cases {ℓ} : {X : Type ℓ}
      → (get_or ss i 0 ≡ 1 → nearer n ts ss best i ≡ best → X)
      → ((get_or ss i 0 ≡ 1 → ⊥) → best ≡ n → nearer n ts ss best i ≡ i → X)
      → ((get_or ss i 0 ≡ 1 → ⊥) → (best ≡ n → ⊥) → get_or ts i 0 < get_or ts best 0 → nearer n ts ss best i ≡ i → X)
      → ((get_or ss i 0 ≡ 1 → ⊥) → (best ≡ n → ⊥) → get_or ts best 0 ≤ get_or ts i 0 → nearer n ts ss best i ≡ best → X) → X
  nearer_cases f g h k =
      by_test (eqb (get_or ss i 0) 1) (λ a. let p = eqb-true (get_or ss i 0) 1 a in f p (nearer_closed p))
      (λ a.
      let p = eqb-false (get_or ss i 0) 1 a in
      by_test (eqb best n) (λ b. let q = eqb-true best n b in g p q (nearer_none p q))
      (λ b.
      let q = eqb-false best n b in
      by_test (ltb (get_or ts i 0) (get_or ts best 0)) (λ c. let r = ltb-true (get_or ts i 0) (get_or ts best 0) c in h p q r (nearer_less p q r))
      (λ c. let r = ltb-false (get_or ts i 0) (get_or ts best 0) c in k p q r (nearer_keep p q r))))

  pub nearer_within : best ≤ n → i < n → nearer n ts ss best i ≤ n
  nearer_within h g = nearer_cases (λ a e. rw e h) (λ a b e. rw e (omega arith)) (λ a b c e. rw e (omega arith)) (λ a b c e. rw e h)

-- ---- the loop

pub least_more : (k n i best : ℕ) (ts ss : List ℕ) → 0 < k → least_from k n i best ts ss ≡ least_from (k - 1) n (i + 1) (nearer n ts ss best i) ts ss
unfolding least_from
least_more zero n i best ts ss h = absurd (omega arith)
least_more (suc k) n i best ts ss h = let e : k ≡ suc k - 1 = omega arith in ap (λ z. least_from z n (i + 1) (nearer n ts ss best i) ts ss) e

pub least_none : (k n i best : ℕ) (ts ss : List ℕ) → k ≤ 0 → least_from k n i best ts ss ≡ best
unfolding least_from
least_none zero n i best ts ss h = refl
least_none (suc k) n i best ts ss h = absurd (omega arith)

-- ---- what it means: of the first i rows of n

abbrev pub Closed : List ℕ → ℕ → Type 0
Closed ss j = get_or ss j 0 ≡ 1

pub record Least (n : ℕ) (ts ss : List ℕ) (i best : ℕ) : Type 0 where
  pub within : best ≤ n
  pub none : best ≡ n → (j : ℕ) → j < i → Closed ss j
  pub left : best < n → (best < i) × (Closed ss best → ⊥)
  pub first : best < n → (j : ℕ) → j < best → Closed ss j ⊎ (get_or ts best 0 < get_or ts j 0)
  pub least : best < n → (j : ℕ) → j < i → Closed ss j ⊎ (get_or ts best 0 ≤ get_or ts j 0)

-- what holds below i and of i holds below i + 1
below : (P : ℕ → Type 0) (i : ℕ) → ((j : ℕ) → j < i → P j) → P i → (j : ℕ) → j < i + 1 → P j
below P i h p j g =
    by_test (ltb j i) (λ a. h j (ltb-true j i a)) (λ a. let b = ltb-false j i a in let e : i ≡ j = omega (arith, b, g) in subst P e p)

least_step : (n : ℕ) (ts ss : List ℕ) (i best : ℕ) → i < n → Least n ts ss i best → Least n ts ss (i + 1) (nearer n ts ss best i)
least_step n ts ss i best h l =
    nearer_cases n ts ss best i
    (λ a e.
    rw e
    (record {
      within = l.within;
      none = λ z. below (Closed ss) i (l.none z) a;
      left = λ z. (omega (arith, (l.left z).0), (l.left z).1);
      first = l.first;
      least = λ z. below (λ j. Closed ss j ⊎ (get_or ts best 0 ≤ get_or ts j 0)) i (l.least z) (inl a);
    }))
    (λ a b e.
    rw e
    (record {
      within = omega arith;
      none = λ z. absurd (omega (arith, z, h));
      left = λ z. (omega arith, a);
      first = λ z j g. inl (l.none b j g);
      least = λ z. below (λ j. Closed ss j ⊎ (get_or ts i 0 ≤ get_or ts j 0)) i (λ j g. inl (l.none b j g)) (inr (omega arith));
    }))
    (λ a b c e.
    let some : best < n = omega (arith, l.within, b) in
    rw e
    (record {
      within = omega arith;
      none = λ z. absurd (omega (arith, z, h));
      left = λ z. (omega arith, a);
      first = λ z j g. ⊎_elim (λ x. inl x) (λ x. inr (omega (arith, x, c))) (l.least some j g);
      least = λ z. below (λ j. Closed ss j ⊎ (get_or ts i 0 ≤ get_or ts j 0)) i (λ j g. ⊎_elim (λ x. inl x) (λ x. inr (omega (arith, x, c))) (l.least some j g)) (inr (omega arith));
    }))
    (λ a b c e.
    rw e
    (record {
      within = l.within;
      none = λ z. absurd (b z);
      left = λ z. (omega (arith, (l.left z).0), (l.left z).1);
      first = l.first;
      least = λ z. below (λ j. Closed ss j ⊎ (get_or ts best 0 ≤ get_or ts j 0)) i (l.least z) (inr c);
    }))

least_all : (k n i best : ℕ) (ts ss : List ℕ) → i + k ≡ n → Least n ts ss i best → Least n ts ss n (least_from k n i best ts ss)
unfolding least_from
least_all zero n i best ts ss h l = let e : i ≡ n = omega arith in subst (λ z. Least n ts ss z best) e l
least_all (suc k) n i best ts ss h l = least_all k n (i + 1) (nearer n ts ss best i) ts ss (omega arith) (least_step n ts ss i best (omega arith) l)

pub least_is : (n : ℕ) (ts ss : List ℕ) → Least n ts ss n (least_of n ts ss)
unfolding least_of
least_is n ts ss =
    least_all n n 0 n ts ss (omega arith)
    (record {
      within = omega arith;
      none = λ z j g. absurd (omega (arith, g));
      left = λ z. absurd (omega (arith, z));
      first = λ z j g. absurd (omega (arith, z));
      least = λ z j g. absurd (omega (arith, g));
    })

pub least_found : (n : ℕ) (ts ss : List ℕ) (i : ℕ) → i ≡ least_of n ts ss → Least n ts ss n i
least_found n ts ss i e = subst (Least n ts ss n) (sym e) (least_is n ts ss)

-- ---- the row i again after one of its events was taken: where it has a further one at that Time, it is still the first of the least

module _ (n : ℕ) (ts ss : List ℕ) (i x s : ℕ) (inside : i < n) (few : n ≤ length ts) (many : n ≤ length ss) where
  kept_time : get_or ts i 0 ≡ x → (j : ℕ) → get_or (set ts i x) j 0 ≡ get_or ts j 0
  kept_time e j =
      by_test (eqb j i) (λ y. let z = eqb-true j i y in ap (λ k. get_or (set ts i x) k 0) z ∙ get_or-set_same ts i x 0 (omega arith) ∙ sym e ∙ ap (λ k. get_or ts k 0) (sym z))
      (λ y. get_or-set_other ts i j x 0 (eqb-false j i y))

  kept_closed : (s ≡ 1 → ⊥) → (j : ℕ) → Closed ss j → (j ≡ i → ⊥) → Closed (set ss i s) j
  kept_closed h j c d = get_or-set_other ss i j s 0 d ∙ c

  pub least_kept : get_or ts i 0 ≡ x → (s ≡ 1 → ⊥) → Least n ts ss n i → Least n (set ts i x) (set ss i s) n i
  least_kept e h l =
      let time = kept_time e in
      let was = (l.left inside).1 in
      let closed : (j : ℕ) → Closed ss j → Closed (set ss i s) j = λ j c. kept_closed h j c (λ z. was (subst (Closed ss) z c)) in
      record {
        within = l.within;
        none = λ z. absurd (omega (arith, z, inside));
        left = λ z. (inside, λ c. h (sym (get_or-set_same ss i s 0 (omega arith)) ∙ c));
        first = λ z j g. ⊎_elim (λ c. inl (closed j c)) (λ b. inr (omega (arith, time i, time j, b))) (l.first z j g);
        least = λ z j g. ⊎_elim (λ c. inl (closed j c)) (λ b. inr (omega (arith, time i, time j, b))) (l.least z j g);
      }

module _ (n : ℕ) (ts ss : List ℕ) (i t : ℕ) where
  pub after_other : (get_or ts i 0 ≡ t → ⊥) → least_of n ts ss ≡ least_after n ts ss i t
  unfolding least_after pick
  after_other h = rw (ne_eqb (get_or ts i 0) t h) refl

  pub after_closed : get_or ts i 0 ≡ t → get_or ss i 0 ≡ 1 → least_of n ts ss ≡ least_after n ts ss i t
  unfolding least_after pick
  after_closed h g = rw (eq-eqb (get_or ts i 0) t h, eq-eqb (get_or ss i 0) 1 g) refl

  pub after_same : get_or ts i 0 ≡ t → (get_or ss i 0 ≡ 1 → ⊥) → i ≡ least_after n ts ss i t
  unfolding least_after pick
  after_same h g = rw (eq-eqb (get_or ts i 0) t h, ne_eqb (get_or ss i 0) 1 g) refl

-- what least_after answers is the first of the least
pub least_again : (n : ℕ) (ts ss : List ℕ) (i x s t r : ℕ) → i < n → n ≤ length ts → n ≤ length ss → get_or ts i 0 ≡ t → Least n ts ss n i
    → r ≡ least_after n (set ts i x) (set ss i s) i t → Least n (set ts i x) (set ss i s) n r
unfolding least_after pick
least_again n ts ss i x s t r inside few many e l h =
    let stored = get_or-set_same ts i x 0 (omega arith) in
    let status = get_or-set_same ss i s 0 (omega arith) in
    by_test (eqb x t)
    (λ b.
    by_test (eqb s 1) (λ d. least_found n (set ts i x) (set ss i s) r (rw (stored, status, b, d) at h))
    (λ d.
    subst (Least n (set ts i x) (set ss i s) n) (sym (rw (stored, status, b, d) at h))
    (least_kept n ts ss i x s inside few many (e ∙ sym (eqb-true x t b)) (eqb-false s 1 d) l)))
    (λ b. least_found n (set ts i x) (set ss i s) r (rw (stored, status, b) at h))
