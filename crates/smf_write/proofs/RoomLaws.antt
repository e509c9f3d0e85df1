-- What is written past the end of a room leaves it as it was.
use mathlib.Core.Path.{◌≡◌, refl, sym, ap}
use mathlib.Core.List.{List, [], ◌∷◌}
use Prim.Native.Nat.{ℕ, zero, suc, ◌+◌, ◌≤◌}
use native.Mathlib.Omega.{arith}
use lib.ListN.{length, set}
use lib.Seq.{sets}
use Rattle.event_write.specs.Written.{Written}

set_past : (l : List ℕ) (i a : ℕ) → length l ≤ i → set l i a ≡ l
set_past [] i a h = refl
set_past (x ∷ l) zero a h = absurd (omega arith)
set_past (x ∷ l) (suc i) a h = ap (λ z. x ∷ z) (set_past l i a (omega arith))

sets_past : (xs l : List ℕ) (i : ℕ) → length l ≤ i → sets l i xs ≡ l
sets_past [] l i h = refl
sets_past (a ∷ xs) l i h = rw (set_past l i a h) (sets_past xs l (suc i) (omega arith))

pub past_room : (xs l : List ℕ) (i : ℕ) → length l ≤ i → Written l i xs l (i + length xs)
past_room xs l i h = record { contents = sym (sets_past xs l i h); place = refl }
