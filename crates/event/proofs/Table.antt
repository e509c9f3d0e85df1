-- A rule of a table, proved at all of its entries by one test that antt computes, one entry after the other.
use mathlib.Core.Path.{◌≡◌, subst, sym, ◌∙◌}
use mathlib.Core.Bool.{Bool, true, ◌&&◌}
use mathlib.Core.List.{List, [], ◌∷◌}
use Prim.Native.Nat.{ℕ, zero, suc, ◌+◌, ◌<◌}
use native.Mathlib.Nat.{add-zero, zero-add, add-suc, suc-add, le_of_suc-le-suc, not-suc-le-zero}
use lib.ListN.{length, get_or}
use Rattle.event.proofs.ChoiceLaws.{and_both}

-- the test f passes at each entry of the list and its place, counted from i
abbrev pub every : (ℕ → ℕ → Bool) → ℕ → List ℕ → Bool
every f i [] = true
every f i (x ∷ xs) = f i x && every f (suc i) xs

from : (f : ℕ → ℕ → Bool) (xs : List ℕ) (i k : ℕ) → every f i xs ≡ true → k < length xs → f (i + k) (get_or xs k 0) ≡ true
from f [] i k t h = absurd (not-suc-le-zero h)
from f (x ∷ xs) i zero t h = rw (add-zero i) (and_both (f i x) (every f (suc i) xs) t).0
from f (x ∷ xs) i (suc k) t h =
    subst (λ (m : ℕ). f m (get_or xs k 0) ≡ true) (suc-add i k ∙ sym (add-suc i k))
    (from f xs (suc i) k (and_both (f i x) (every f (suc i) xs) t).1 (le_of_suc-le-suc h))

pub at : (f : ℕ → ℕ → Bool) (xs : List ℕ) (k : ℕ) → every f 0 xs ≡ true → k < length xs → f k (get_or xs k 0) ≡ true
at f xs k t h = subst (λ (m : ℕ). f m (get_or xs k 0) ≡ true) (zero-add k) (from f xs 0 k t h)
