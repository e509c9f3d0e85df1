-- The first line of a text, and what a written line goes through unchanged.
use mathlib.Core.Path.{◌≡◌, refl, ap, ap₂, ◌∙◌}
use Prim.Native.Nat.{ℕ, ◌≤◌}
use mathlib.Core.Bool.{false, ◌||◌}
use mathlib.Core.List.{List, [], ◌∷◌, ◌++◌}
use native.Mathlib.Omega.{arith}
use lib.ListN.{length}
use lib.Dec.{eqb}
use borrow.Author.Tests.{ne_eqb}
use Rattle.event.proofs.ChoiceLaws.{pick_true, pick_false}
use Rattle.midicsv.specs.Lines.{onto, lines_of, trimmed, is_comment, passed_over}
use Rattle.midicsv.proofs.AllLaws.{All, Printable, Digit}
use Rattle.midicsv.proofs.FieldReadLaws.{skip_none}

-- ---- the equations that a loop over the lines follows

abbrev pub NoFeed : List ℕ → Type 0
NoFeed l = All (λ c. eqb c 10 ≡ false) l

pub lines_feed : (l s : List ℕ) → NoFeed l → lines_of (l ++ (10 ∷ s)) ≡ l ∷ lines_of s
unfolding lines_of onto
lines_feed [] s a = pick_true _ _ refl
lines_feed (c ∷ l) s a = pick_false _ _ a.0 ∙ ap (onto c) (lines_feed l s a.1)

pub lines_last : (c : ℕ) (l : List ℕ) → NoFeed (c ∷ l) → lines_of (c ∷ l) ≡ (c ∷ l) ∷ []
unfolding lines_of onto
lines_last c [] a = pick_false _ _ a.0
lines_last c (d ∷ l) a = pick_false _ _ a.0 ∙ ap (onto c) (lines_last d l a.1)

-- ---- a line without control bytes

pub printable_feed : (l : List ℕ) → All Printable l → NoFeed l
printable_feed [] a = tt
printable_feed (c ∷ l) a = (ne_eqb c 10 (λ e. omega arith), printable_feed l a.1)

pub trimmed_same : (l : List ℕ) → All Printable l → trimmed l ≡ l
unfolding trimmed
trimmed_same [] a = refl
trimmed_same (c ∷ []) a = pick_false _ _ (ne_eqb c 13 (λ e. omega arith))
trimmed_same (c ∷ d ∷ l) a = ap (λ z. c ∷ z) (trimmed_same (d ∷ l) a.1)

-- a line that a digit begins
pub not_passed : (l r : List ℕ) → (1 ≤ length l) × All Digit l → passed_over (l ++ r) ≡ false
unfolding passed_over is_comment
not_passed [] r h = absurd (omega arith)
not_passed (c ∷ l) r h =
    ap is_comment (skip_none c (l ++ r) (omega arith))
    ∙ ap₂ ◌||◌ (ne_eqb c 35 (λ e. omega arith)) (ne_eqb c 59 (λ e. omega arith))
