-- What holds of each number in a range, shown number by number.
use mathlib.Core.Path.{◌≡◌, subst}
use Prim.Native.Nat.{ℕ, zero, suc, ◌+◌, ◌<◌, ◌≤◌}
use mathlib.Core.Bool.{Bool, true, ◌&&◌}
use native.Mathlib.Omega.{arith}
use lib.Dec.{eqb}
use borrow.Author.Tests.{eqb-true, eqb-false}
use Rattle.event.proofs.ChoiceLaws.{by_test, and_both}

-- P of k numbers from a on
abbrev pub Each : (ℕ → Type 0) → ℕ → ℕ → Type 0
Each P a zero = Unit {0}
Each P a (suc k) = P a × Each P (suc a) k

pub each : (P : ℕ → Type 0) (a k n : ℕ) → a ≤ n → n < a + k → Each P a k → P n
each P a zero n h l e = absurd (omega arith)
each P a (suc k) n h l e =
    by_test (eqb a n)
    (λ t. subst P (eqb-true a n t) e.0)
    (λ t. let z = eqb-false a n t in each P (suc a) k n (omega arith) (omega arith) e.1)

-- a test of k numbers from a on
abbrev pub all : (ℕ → Bool) → ℕ → ℕ → Bool
all p a zero = true
all p a (suc k) = p a && all p (suc a) k

pub all_each : (p : ℕ → Bool) (a k : ℕ) → all p a k ≡ true → Each (λ n. p n ≡ true) a k
all_each p a zero e = tt
all_each p a (suc k) e = let (x, y) = and_both (p a) (all p (suc a) k) e in (x, all_each p (suc a) k y)
