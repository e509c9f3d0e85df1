-- A quoted text beside a word, character by character.
use mathlib.Core.Path.{◌≡◌, refl, sym, ◌∙◌, ap, subst}
use Prim.Native.Nat.{ℕ, ◌+◌, ◌<◌, ◌≤◌}
use mathlib.Core.Bool.{false}
use mathlib.Core.List.{List, [], ◌∷◌}
use native.Mathlib.Omega.{arith}
use native.Mathlib.Numerals.{add-one}
use lib.ListN.{length, get_or, drop, drop_of_length-le}
use lib.Seq.{drop-cons}
use lib.Dec.{eqb}
use borrow.Author.Tests.{eq-eqb, ne_eqb, eqb-true, eqb-false}
use Rattle.event.proofs.ChoiceLaws.{by_test}
use Rattle.midicsv.specs.ReadField.{plain}
use Rattle.midicsv.specs.ReadRecord.{same_bytes}
use Rattle.midicsv_scan.specs.Unquoted.{unquoted}
use Rattle.midicsv_record.specs.TextState.{seen_as, Small, SmallStep, step_as, Gives}
use Rattle.midicsv_record.specs.declared.TextState.{TextState}
use Rattle.midicsv_record.specs.declared.TextState.TheVariants.{Plain}
use Rattle.midicsv_record.specs.declared.TextStep.{TextStep}
use Rattle.midicsv_record.specs.declared.TextStep.TheVariants.{Nothing, Byte, Closed}
use Rattle.midicsv_record.proofs.TextLaws.{unquoted_past, unquoted_on}

-- the empty text is the rest of the word w from k on where that is empty
word_end : (w : List ℕ) (k : ℕ) → k ≤ length w → eqb k (length w) ≡ same_bytes [] (drop k w)
unfolding same_bytes
word_end w k h =
    by_test (eqb k (length w))
    (λ t. let e = eqb-true k (length w) t in let g : length w ≤ k = omega arith in rw (t, drop_of_length-le w g) refl)
    (λ t. let e = eqb-false k (length w) t in let g : k < length w = omega arith in rw (t, drop-cons w k 0 g) refl)

-- the text of l from start on is w where the characters from i on, after p, give the rest of w from k on
pub record Agrees (l w : List ℕ) (start i k : ℕ) (p : TextState) : Type 0 where
  pub small : Small p
  pub within : k ≤ length w
  pub rest : same_bytes (unquoted (drop i l) (seen_as p)) (drop k w) ≡ same_bytes (unquoted (drop start l) plain) w

module _ (l w : List ℕ) (start : ℕ) where
  pub agrees_first : Agrees l w start start 0 Plain
  unfolding Small seen_as
  agrees_first = record { small = tt; within = omega arith; rest = refl }

  module _ (i k : ℕ) (p : TextState) (a : Agrees l w start i k p) where
    -- at the line's end
    pub agrees_past : length l ≤ i → eqb k (length w) ≡ same_bytes (unquoted (drop start l) plain) w
    agrees_past h = word_end w k a.within ∙ rw (← a.rest, unquoted_past l i (seen_as p) h) refl

    module _ (h : i < length l) (r : TextStep) (g : Gives p (get_or l i 0) r) where
      -- what is left after one more character
      left : same_bytes (step_as r (drop (i + 1) l)) (drop k w) ≡ same_bytes (unquoted (drop start l) plain) w
      left = ap (λ x. same_bytes x (drop k w)) (sym (unquoted_on l i p r h g)) ∙ a.rest

      pub agrees_nothing : (q : TextState) → r ≡ Nothing q → SmallStep r → Agrees l w start (i + 1) k q
      unfolding step_as SmallStep
      agrees_nothing q e s = record { small = subst SmallStep e s; within = a.within; rest = ap (λ x. same_bytes (step_as x (drop (i + 1) l)) (drop k w)) (sym e) ∙ left }

      byte_left : (b : ℕ) (q : TextState) → r ≡ Byte b q → same_bytes (b ∷ unquoted (drop (i + 1) l) (seen_as q)) (drop k w) ≡ same_bytes (unquoted (drop start l) plain) w
      unfolding step_as
      byte_left b q e = ap (λ x. same_bytes (step_as x (drop (i + 1) l)) (drop k w)) (sym e) ∙ left

      pub agrees_byte : (b : ℕ) (q : TextState) → r ≡ Byte b q → SmallStep r → k < length w → b ≡ get_or w k 0 → Agrees l w start (i + 1) (k + 1) q
      unfolding SmallStep same_bytes
      agrees_byte b q e s f same =
          record { small = subst SmallStep e s; within = omega arith; rest = rw (add-one k) (rw (drop-cons w k 0 f, eq-eqb b (get_or w k 0) same) at (byte_left b q e)) }

      pub differs : (b : ℕ) (q : TextState) → r ≡ Byte b q → k < length w → (b ≡ get_or w k 0 → ⊥) → false ≡ same_bytes (unquoted (drop start l) plain) w
      unfolding same_bytes
      differs b q e f n = rw (drop-cons w k 0 f, ne_eqb b (get_or w k 0) n) at (byte_left b q e)

      pub word_short : (b : ℕ) (q : TextState) → r ≡ Byte b q → length w ≤ k → false ≡ same_bytes (unquoted (drop start l) plain) w
      unfolding same_bytes
      word_short b q e f = rw (drop_of_length-le w f) at (byte_left b q e)

      pub agrees_closed : r ≡ Closed → eqb k (length w) ≡ same_bytes (unquoted (drop start l) plain) w
      unfolding step_as
      agrees_closed e = word_end w k a.within ∙ ap (λ x. same_bytes (step_as x (drop (i + 1) l)) (drop k w)) (sym e) ∙ left
