-- How the tests of a line are put together, and taken apart.
use mathlib.Core.Path.{◌≡◌, refl, ap}
use Prim.Native.Nat.{ℕ}
use mathlib.Core.Bool.{Bool, true, false}
use native.Mathlib.Omega.{arith}
use Rattle.midicsv.specs.Result.{Result, good, bad, next, test}

-- a refusal is no value
pub not_good {ℓ} : {A : Type 0} {X : Type ℓ} {n : ℕ} {a : A} → bad n ≡ good a → X
not_good e = let z : ◌≡◌ {A = ℕ} 0 1 = cc in absurd (omega arith)

pub good_same : {A : Type 0} {a b : A} → good a ≡ good b → a ≡ b
good_same e = cc

module _ {A B : Type 0} where
  pub next_eq : {m : Result A} (f : A → Result B) {a : A} → m ≡ good a → next m f ≡ f a
  unfolding next
  next_eq f e = ap (λ x. next x f) e

  -- an accepted sequence: both parts were accepted
  pub next_good {ℓ} : {X : Type ℓ} (m : Result A) (f : A → Result B) (b : B) → next m f ≡ good b → ((a : A) → m ≡ good a → f a ≡ good b → X) → X
  unfolding next
  next_good (good a) f b e k = k a refl e
  next_good (bad n) f b e k = not_good e

module _ {A : Type 0} where
  pub test_eq : {t : Bool} (n : ℕ) (m : Result A) → t ≡ true → test t n m ≡ m
  unfolding test
  test_eq n m e = ap (λ x. test x n m) e

  pub test_good : (t : Bool) (n : ℕ) (m : Result A) (a : A) → test t n m ≡ good a → (t ≡ true) × (m ≡ good a)
  unfolding test
  test_good true n m a e = (refl, e)
  test_good false n m a e = not_good e
