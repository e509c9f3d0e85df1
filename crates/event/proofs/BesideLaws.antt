-- Relations between bytes and others that stand for the same: what holds of the parts holds of the whole.
use mathlib.Core.Path.{◌≡◌, refl, sym, ap₂}
use Prim.Native.Nat.{ℕ, ◌*◌, ◌<◌, ◌≤◌}
use mathlib.Core.List.{List, [], ◌++◌}
use native.Mathlib.Omega.{arith}
use lib.ListN.{length, length-append, drop_of_length-le}

-- it holds of equal bytes, of none beside any, and of runs one after the other
pub record Beside (W : List ℕ → List ℕ → Type 0) : Type 0 where
  pub same : (x : List ℕ) → W x x
  pub none : (y : List ℕ) → W [] y
  pub both : (x y u v : List ℕ) → W x y → W u v → W (x ++ u) (y ++ v)

-- the bytes x are no more than y, and they are y where y is no longer
pub record Fewest (x y : List ℕ) : Type 0 where
  pub no_more : length x ≤ length y
  pub only : length y ≤ length x → x ≡ y

pub fewest_shorter : (x y : List ℕ) → length x < length y → Fewest x y
fewest_shorter x y h = record { no_more = omega arith; only = λ g. absurd (omega (arith, h, g)) }

pub fewest_beside : Beside Fewest
fewest_beside =
    record {
      same = λ x. record { no_more = omega arith; only = λ h. refl };
      none = λ y. record { no_more = omega arith; only = λ h. sym (drop_of_length-le y h) };
      both = λ x y u v a b.
          let p = length-append x u in
          let q = length-append y v in
          let f = a.no_more in
          let g = b.no_more in
          record { no_more = omega arith; only = λ h. ap₂ (λ s t. s ++ t) (a.only (omega arith)) (b.only (omega arith)) };
    }

-- the bytes x are at most twice as many as y
abbrev pub Double : List ℕ → List ℕ → Type 0
Double x y = length x ≤ 2 * length y

pub double_beside : Beside Double
double_beside =
    record {
      same = λ x. omega arith;
      none = λ y. omega arith;
      both = λ x y u v a b. omega (arith, length-append x u, length-append y v, a, b);
    }
