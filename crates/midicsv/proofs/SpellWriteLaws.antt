-- The bytes of a spelled text one after the other: what is left to write.
use mathlib.Core.Path.{◌≡◌, refl, sym}
use Prim.Native.Nat.{ℕ, suc, ◌+◌, ◌-◌, ◌<◌, ◌≤◌}
use mathlib.Core.Bool.{Bool, ◌&&◌, not}
use mathlib.Core.List.{List, [], ◌∷◌, ◌++◌}
use native.Mathlib.Omega.{arith}
use native.Mathlib.Numerals.{add-one}
use lib.ListN.{length, take, drop, get_or, drop_of_length-le, length-take}
use Rattle.std.proofs.lemmas.List.{get_or-take}
use lib.Seq.{drop-cons}
use borrow.Author.Tests.{le-leb, lt-leb}
use Rattle.event.proofs.ChoiceLaws.{pick_true, pick_false}
use Rattle.midicsv.specs.ReadField.{is_letter}
use Rattle.midicsv.specs.Spell.{octal, or_octal, stands_inside, stands_last, is_truth, spell_rest, spell_short, octal_all, spell_text, longest}

-- the last byte, and those inside before it
module _ (free : Bool) (before : ℕ) (d : List ℕ) (i : ℕ) where
  -- a byte inside
  pub rest_more : i < length (take (length d - 1) d)
      → let c = get_or (take (length d - 1) d) i 0 in spell_rest free before (drop i d) ≡ or_octal (stands_inside c) c ++ spell_rest free c (drop (i + 1) d)
  unfolding spell_rest
  rest_more h =
      let size : i < length d - 1 = omega (arith, length-take (length d - 1) d) in
      rw (get_or-take (length d - 1) d i 0 size, add-one, drop-cons d i 0 (omega arith), drop-cons d (suc i) 0 (omega arith))

  pub rest_last : i ≡ length (take (length d - 1) d) → 1 ≤ length d → let c = get_or d (length d - 1) 0 in spell_rest free before (drop i d) ≡ or_octal (free && stands_last before c) c
  unfolding spell_rest
  rest_last p q =
      let e : i ≡ length d - 1 = omega (arith, length-take (length d - 1) d) in
      rw (sym e, drop-cons d i 0 (omega arith), drop_of_length-le d {i = suc i} (omega arith))

module _ (d : List ℕ) (i : ℕ) where
  pub octals_more : i < length d → octal_all (drop i d) ≡ octal (get_or d i 0) ++ octal_all (drop (i + 1) d)
  unfolding octal_all
  octals_more h = rw (add-one, drop-cons d i 0 h)

  pub octals_end : length d ≤ i → octal_all (drop i d) ≡ []
  unfolding octal_all
  octals_end h = rw (drop_of_length-le d h)

pub rest_none : (free : Bool) (before : ℕ) (d : List ℕ) → length d < 1 → spell_rest free before d ≡ []
unfolding spell_rest
rest_none free before [] h = refl
rest_none free before (c ∷ l) h = absurd (omega arith)

pub short_none : (d : List ℕ) → length d < 1 → spell_short d ≡ []
unfolding spell_short
short_none [] h = refl
short_none (c ∷ l) h = absurd (omega arith)

pub short_some : (d : List ℕ) → 1 ≤ length d
    → or_octal (is_letter (get_or d 0 0)) (get_or d 0 0) ++ spell_rest (not (is_truth d)) (get_or d 0 0) (drop 1 d) ≡ spell_short d
unfolding spell_short
short_some [] h = absurd (omega arith)
short_some (c ∷ l) h = refl

pub spelled_short : (d : List ℕ) → length d ≤ longest → spell_short d ≡ spell_text d
unfolding spell_text
spelled_short d h = sym (pick_true _ _ (le-leb (length d) longest h))

pub spelled_long : (d : List ℕ) → longest < length d → octal_all d ≡ spell_text d
unfolding spell_text
spelled_long d h = sym (pick_false _ _ (lt-leb (length d) longest h))
