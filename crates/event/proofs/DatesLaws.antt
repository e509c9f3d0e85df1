-- What the answer to a Time less another says.
use mathlib.Core.Path.{◌≡◌, sym, ap}
use Prim.Native.Nat.{ℕ, ◌-◌, ◌<◌, ◌≤◌}
use native.Mathlib.Omega.{arith}
use lib.Dec.{leb}
use borrow.Author.Tests.{leb-true, leb-false}
use Rattle.event.specs.Dates.{since_of}
use Rattle.event.specs.declared.Delta.{Delta}
use Rattle.std.specs.Prelude.{Some, None}
use Rattle.event.proofs.ChoiceLaws.{pick_cases}

pub since_before : (t u : ℕ) → since_of t u ≡ None → t < u
unfolding since_of
since_before t u e = pick_cases (leb u t) _ _ None e (λ k q. let z : ◌≡◌ {A = ℕ} 0 1 = cc in absurd (omega arith)) (λ k q. leb-false u t k)

pub since_after : (t u : ℕ) (d : Delta) → since_of t u ≡ Some d → (u ≤ t) × (d.0 ≡ t - u)
unfolding since_of
since_after t u d e =
    pick_cases (leb u t) _ _ (Some d) e
    (λ k q. (leb-true u t k, let z : record { 0 = t - u } ≡ d = cc in sym (ap (λ (w : Delta). w.0) z)))
    (λ k q. let z : ◌≡◌ {A = ℕ} 0 1 = cc in absurd (omega arith))
