-- The CR at the end of a line, and the lines that are passed over.
use mathlib.Core.Path.{◌≡◌, refl, ap}
use Prim.Native.Nat.{ℕ, zero, suc, ◌-◌, ◌<◌, ◌≤◌}
use mathlib.Core.Bool.{true, ◌||◌}
use mathlib.Core.List.{List, [], ◌∷◌}
use native.Mathlib.Omega.{arith}
use lib.ListN.{length, get_or, take, drop_of_length-le}
use lib.Seq.{drop-cons}
use lib.Dec.{eqb}
use borrow.Author.Tests.{eq-eqb, ne_eqb}
use Rattle.event.specs.Choice.{pick}
use Rattle.event.proofs.ChoiceLaws.{by_test}
use Rattle.midicsv_scan.specs.Part.{Skipped}
use Rattle.midicsv.specs.Lines.{trimmed, is_comment, passed_over}

-- ---- the CR; m is the place of the last byte

cr_at : (l : List ℕ) (m : ℕ) → length l ≡ suc m → get_or l m 0 ≡ 13 → take m l ≡ trimmed l
unfolding trimmed pick
cr_at [] m h e = absurd (omega arith)
cr_at (c ∷ []) zero h e = rw (eq-eqb c 13 e)
cr_at (c ∷ []) (suc m) h e = absurd (omega arith)
cr_at (c ∷ d ∷ l) zero h e = absurd (omega arith)
cr_at (c ∷ d ∷ l) (suc m) h e = ap (λ z. c ∷ z) (cr_at (d ∷ l) m (omega arith) e)

no_cr_at : (l : List ℕ) (m : ℕ) → length l ≡ suc m → (get_or l m 0 ≡ 13 → ⊥) → l ≡ trimmed l
unfolding trimmed pick
no_cr_at [] m h e = absurd (omega arith)
no_cr_at (c ∷ []) zero h e = rw (ne_eqb c 13 e)
no_cr_at (c ∷ []) (suc m) h e = absurd (omega arith)
no_cr_at (c ∷ d ∷ l) zero h e = absurd (omega arith)
no_cr_at (c ∷ d ∷ l) (suc m) h e = ap (λ z. c ∷ z) (no_cr_at (d ∷ l) m (omega arith) e)

-- as the part of the line that the code takes
pub trim_cr : (l : List ℕ) → (length l ≡ 0 → ⊥) → get_or l (length l - 1) 0 ≡ 13 → take (length l - 1) l ≡ trimmed l
trim_cr l h e = cr_at l (length l - 1) (omega arith) e

pub trim_none : (l : List ℕ) → (length l ≡ 0 → ⊥) → (get_or l (length l - 1) 0 ≡ 13 → ⊥) → l ≡ trimmed l
trim_none l h e = no_cr_at l (length l - 1) (omega arith) e

pub trim_empty : (l : List ℕ) → length l ≡ 0 → l ≡ trimmed l
unfolding trimmed
trim_empty [] h = refl
trim_empty (c ∷ l) h = absurd (omega arith)

pub trimmed_size : (l : List ℕ) → length (trimmed l) ≤ length l
unfolding trimmed pick
trimmed_size [] = omega arith
trimmed_size (c ∷ []) = by_test (eqb c 13) (λ t. rw t (omega arith)) (λ t. rw t (omega arith))
trimmed_size (c ∷ d ∷ l) = let h = trimmed_size (d ∷ l) in omega arith

-- ---- passed over; p is the place of the first byte that is no blank

pub over_end : (l : List ℕ) (p : ℕ) → Skipped l 0 p → length l ≤ p → true ≡ passed_over l
unfolding passed_over is_comment
over_end l p k h = rw (k.same, drop_of_length-le l h)

pub over_other : (l : List ℕ) (p : ℕ) → Skipped l 0 p → p < length l → (eqb (get_or l p 0) 35 || eqb (get_or l p 0) 59) ≡ passed_over l
unfolding passed_over is_comment
over_other l p k h = rw (k.same, drop-cons l p 0 h)
