-- How an accepted sequence of readers is put together, and taken apart.
use mathlib.Core.Path.{◌≡◌, refl, ap, ap₂}
use Prim.Native.Nat.{ℕ}
use mathlib.Core.Bool.{Bool, true, false}
use mathlib.Core.List.{List, [], ◌∷◌}
use native.Mathlib.Omega.{arith}
use Rattle.event.specs.Outcome.{Outcome, ok, refused, and_then, check, placed, Readable, value_or}

-- a refusal is no value
pub not_ok {ℓ} : {A : Type 0} {X : Type ℓ} {n p : ℕ} {a : A} {r : List ℕ} → refused n p ≡ ok a r → X
not_ok e = let z : ◌≡◌ {A = ℕ} 0 1 = cc in absurd (omega arith)

-- an outcome is one value and one rest
pub ok_same {ℓ} : {A : Type 0} {X : Type ℓ} (a b : A) (l r : List ℕ) → ok a l ≡ ok b r → (a ≡ b → l ≡ r → X) → X
ok_same a b l r e k = k (cc) (cc)

module _ {A B : Type 0} where
  -- an accepted sequence: both parts were accepted
  pub and_then_ok {ℓ} : {X : Type ℓ} (m : Outcome A) (f : A → List ℕ → Outcome B) (b : B) (r : List ℕ) → and_then m f ≡ ok b r
      → ((a : A) (l : List ℕ) → m ≡ ok a l → f a l ≡ ok b r → X) → X
  unfolding and_then
  and_then_ok (ok a l) f b r e k = k a l refl e
  and_then_ok (refused n p) f b r e k = not_ok e

  -- a refused sequence: its first part was, or the second
  pub and_then_refused {ℓ} : {X : Type ℓ} (m : Outcome A) (f : A → List ℕ → Outcome B) (k q : ℕ) → and_then m f ≡ refused k q
      → (m ≡ refused k q → X) → ((a : A) (l : List ℕ) → m ≡ ok a l → f a l ≡ refused k q → X) → X
  unfolding and_then
  and_then_refused (ok a l) f k q e g h = h a l refl e
  and_then_refused (refused n p) f k q e g h = let a : n ≡ k = cc in let b : p ≡ q = cc in g (ap₂ refused a b)

  pub and_then_eq : {m : Outcome A} (f : A → List ℕ → Outcome B) {a : A} {l : List ℕ} → m ≡ ok a l → and_then m f ≡ f a l
  unfolding and_then
  and_then_eq f e = ap (λ x. and_then x f) e

  -- two sequences that go on alike
  pub and_then_same : (m : Outcome A) (f g : A → List ℕ → Outcome B) → ((a : A) (r : List ℕ) → m ≡ ok a r → f a r ≡ g a r) → and_then m f ≡ and_then m g
  unfolding and_then
  and_then_same (ok a r) f g h = h a r refl
  and_then_same (refused n p) f g h = refl

module _ {A : Type 0} where
  pub check_ok : (t : Bool) (n p : ℕ) (m : Outcome A) (a : A) (r : List ℕ) → check t n p m ≡ ok a r → (t ≡ true) × (m ≡ ok a r)
  unfolding check
  check_ok true n p m a r e = (refl, e)
  check_ok false n p m a r e = not_ok e

  -- a refused test: it failed, or what follows it was refused
  pub check_refused {ℓ} : {X : Type ℓ} (t : Bool) (n p k q : ℕ) (m : Outcome A) → check t n p m ≡ refused k q → (t ≡ false → k ≡ n → q ≡ p → X) → (t ≡ true → m ≡ refused k q → X) → X
  unfolding check
  check_refused true n p k q m e f g = g refl e
  check_refused false n p k q m e f g = let a : k ≡ n = cc in let b : q ≡ p = cc in f refl a b

  pub check_eq : {t : Bool} (n p : ℕ) (m : Outcome A) → t ≡ true → check t n p m ≡ m
  unfolding check
  check_eq n p m e = ap (λ x. check x n p m) e

  pub placed_ok : (p : ℕ) (m : Outcome A) (a : A) (r : List ℕ) → placed p m ≡ ok a r → m ≡ ok a r
  unfolding placed
  placed_ok p (ok b l) a r e = e
  placed_ok p (refused n q) a r e = not_ok e

  pub placed_eq : (p : ℕ) {m : Outcome A} {a : A} {r : List ℕ} → m ≡ ok a r → placed p m ≡ ok a r
  unfolding placed
  placed_eq p e = ap (placed p) e

  -- what can be read is a value and a rest
  pub readable_ok : (m : Outcome A) → Readable m → (a : A) × (r : List ℕ) × (m ≡ ok a r)
  unfolding Readable
  readable_ok (ok a r) h = (a, r, refl)
  readable_ok (refused n p) h = absurd h

-- one value before the list that the rest gives
module _ {A : Type 0} where
  pub cons_readable : (a : A) (k : Outcome (List A)) → Readable (and_then k (λ xs r. ok (a ∷ xs) r)) → Readable k
  unfolding Readable and_then
  cons_readable a (ok xs r) h = tt
  cons_readable a (refused n p) h = h

  pub cons_value : (a : A) (k : Outcome (List A)) → Readable k → value_or [] (and_then k (λ xs r. ok (a ∷ xs) r)) ≡ a ∷ value_or [] k
  unfolding Readable and_then value_or
  cons_value a (ok xs r) h = refl
  cons_value a (refused n p) h = absurd h
