-- A property of every byte of a list.
use Prim.Native.Nat.{ℕ, ◌≤◌}
use mathlib.Core.List.{List, [], ◌∷◌, ◌++◌}

abbrev pub All : (ℕ → Type 0) → List ℕ → Type 0
All P [] = Unit {0}
All P (c ∷ l) = P c × All P l

pub all_append : (P : ℕ → Type 0) (s t : List ℕ) → All P s → All P t → All P (s ++ t)
all_append P [] t a b = b
all_append P (x ∷ s) t a b = (a.0, all_append P s t a.1 b)

-- what a line is written with: no control byte
abbrev pub Printable : ℕ → Type 0
Printable c = 32 ≤ c

abbrev pub Digit : ℕ → Type 0
Digit c = (48 ≤ c) × (c ≤ 57)
