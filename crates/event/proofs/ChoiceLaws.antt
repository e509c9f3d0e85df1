-- Choices and tests taken apart.
use mathlib.Core.Path.{◌≡◌, refl, ap}
use Prim.Native.Nat.{ℕ}
use mathlib.Core.Bool.{Bool, true, false, ◌&&◌, ◌||◌}
use native.Mathlib.Omega.{arith}
use Rattle.event.specs.Choice.{pick}

module _ {A : Type 0} where
  pub pick_true : {t : Bool} (x y : A) → t ≡ true → pick t x y ≡ x
  unfolding pick
  pick_true x y e = ap (λ s. pick s x y) e

  pub pick_false : {t : Bool} (x y : A) → t ≡ false → pick t x y ≡ y
  unfolding pick
  pick_false x y e = ap (λ s. pick s x y) e

  -- by cases on the test of a choice
  pub pick_cases {ℓ} : {X : Type ℓ} (t : Bool) (x y z : A) → pick t x y ≡ z → (t ≡ true → x ≡ z → X) → (t ≡ false → y ≡ z → X) → X
  unfolding pick
  pick_cases true x y z e f g = f refl e
  pick_cases false x y z e f g = g refl e

-- by cases on a test
pub by_test {ℓ} : {X : Type ℓ} (t : Bool) → (t ≡ true → X) → (t ≡ false → X) → X
by_test true f g = f refl
by_test false f g = g refl

pub or_cases {ℓ} : {X : Type ℓ} (a b : Bool) → (a || b) ≡ true → (a ≡ true → X) → (b ≡ true → X) → X
or_cases true b e f g = f refl
or_cases false b e f g = g e

pub and_both : (a b : Bool) → (a && b) ≡ true → (a ≡ true) × (b ≡ true)
and_both true b e = (refl, e)
and_both false b e = let z : ◌≡◌ {A = ℕ} 0 1 = cc in absurd (omega arith)
