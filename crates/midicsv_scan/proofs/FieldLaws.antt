-- The field at a place: from its parts, and by its first byte.
use mathlib.Core.Path.{◌≡◌, refl, sym, ap, ◌∙◌}
use Prim.Native.Nat.{ℕ, zero, suc, ◌+◌, ◌-◌, ◌<◌, ◌≤◌}
use mathlib.Core.Bool.{true, false}
use Rattle.std.proofs.Common.{Option, Some, None}
use mathlib.Core.List.{List, ◌∷◌}
use native.Mathlib.Omega.{arith}
use native.Mathlib.Numerals.{add-one}
use lib.ListN.{length, take, drop, get_or, drop_of_length-le}
use lib.Seq.{drop-cons}
use borrow.Author.Tests.{eq-eqb, ne_eqb}
use Rattle.event.specs.Choice.{pick}
use Rattle.event.specs.Outcome.{Outcome, refused, and_then}
use Rattle.midicsv.specs.Field.{Field, num, minus, name, quoted}
use Rattle.midicsv.specs.ReadField.{is_digit, is_letter, read_number, negative, plain, read_quoted, finish, field_of, read_field}
use Rattle.midicsv_scan.specs.Unquoted.{unquoted}
use Rattle.midicsv_scan.specs.FieldAt.{field_as, Within}
use Rattle.midicsv_scan.specs.Part.{EndWithin, NumberWithin, Skipped, number_as, text_as, NameEnds, closed_as, Closes, quoted_field, minus_field, number_field, name_field}
use Rattle.midicsv_scan.specs.declared.FieldAt.{FieldAt}
use Rattle.midicsv_scan.specs.declared.FieldAt.TheVariants.{Number, Minus, Name, Quoted}

-- what a reader's function answers: m, and its places
abbrev pub Reads : List ℕ → ℕ → Option FieldAt → Outcome Field → Type 0
Reads l at r m = record { fact_1 : field_as l r ≡ m; fact_2 : Within l at r }

-- an answer about a later place is one about an earlier
pub within_from : (l : List ℕ) (at p : ℕ) (r : Option FieldAt) → at ≤ p → Within l p r → Within l at r
unfolding Within
within_from l at p (Some (Number v q)) h w = (omega arith, w.1)
within_from l at p (Some (Minus v q)) h w = (omega arith, w.1)
within_from l at p (Some (Name s e q)) h w = (w.0, w.1, omega arith, w.3)
within_from l at p (Some (Quoted s q)) h w = (w.0, omega arith, w.2)
within_from l at p None h w = tt

none_reads : (l : List ℕ) (at : ℕ) (m : Outcome Field) → refused 22 0 ≡ m → Reads l at None m
unfolding field_as Within
none_reads l at m e = record { fact_1 = e; fact_2 = tt }

-- a field that is not closed
open_reads : (l : List ℕ) (at end : ℕ) (f : Field) (m : Outcome Field) → finish f (drop end l) ≡ m → Closes l end None → Reads l at None m
unfolding closed_as
open_reads l at end f m e c = none_reads l at m (c f ∙ e)

-- ---- texts

module _ (l : List ℕ) (at : ℕ) where
  pub quoted_broken : text_as l at None ≡ read_quoted (drop at l) plain → Reads l at None (quoted_field (drop at l))
  unfolding quoted_field text_as and_then
  quoted_broken e = none_reads l at _ (ap (λ m. and_then m (λ d r. finish (quoted d) r)) e)

  module _ (end : ℕ) (e : text_as l at (Some end) ≡ read_quoted (drop at l) plain) where
    quoted_then : finish (quoted (unquoted (drop at l) plain)) (drop end l) ≡ quoted_field (drop at l)
    unfolding quoted_field text_as and_then
    quoted_then = ap (λ m. and_then m (λ d r. finish (quoted d) r)) e

    pub quoted_open : Closes l end None → Reads l at None (quoted_field (drop at l))
    quoted_open c = open_reads l at end _ _ quoted_then c

    pub quoted_is : (next : ℕ) → Closes l end (Some next) → at ≤ length l → EndWithin l at (Some end) → EndWithin l end (Some next)
        → Reads l at (Some (Quoted at next)) (quoted_field (drop at l))
    unfolding field_as closed_as Within
    quoted_is next c h u v = record { fact_1 = c (quoted (unquoted (drop at l) plain)) ∙ quoted_then; fact_2 = (h, omega arith, v.1) }

-- ---- numbers, with or without a minus

below_zero : (value : ℕ) → (value ≡ 0 → ⊥) → minus value ≡ negative value
unfolding negative
below_zero zero z = absurd (z refl)
below_zero (suc n) z = refl

module _ (l : List ℕ) (at : ℕ) where
  pub number_broken : number_as l None ≡ read_number (drop at l) → Reads l at None (number_field (drop at l))
  unfolding number_as and_then number_field
  number_broken e = none_reads l at _ (ap (λ m. and_then m (λ n r. finish (num n) r)) e)

  pub minus_broken : number_as l None ≡ read_number (drop at l) → Reads l at None (minus_field (drop at l))
  unfolding number_as and_then minus_field
  minus_broken e = none_reads l at _ (ap (λ m. and_then m (λ n r. finish (negative n) r)) e)

  module _ (value end : ℕ) (e : number_as l (Some (value, end)) ≡ read_number (drop at l)) where
    number_then : finish (num value) (drop end l) ≡ number_field (drop at l)
    unfolding number_as and_then number_field
    number_then = ap (λ m. and_then m (λ n r. finish (num n) r)) e

    minus_then : finish (negative value) (drop end l) ≡ minus_field (drop at l)
    unfolding number_as and_then minus_field
    minus_then = ap (λ m. and_then m (λ n r. finish (negative n) r)) e

    pub number_open : Closes l end None → Reads l at None (number_field (drop at l))
    number_open c = open_reads l at end _ _ number_then c

    pub minus_open : Closes l end None → Reads l at None (minus_field (drop at l))
    minus_open c = open_reads l at end _ _ minus_then c

    module _ (next : ℕ) (c : Closes l end (Some next)) (u : NumberWithin l at (Some (value, end))) (v : EndWithin l end (Some next)) where
      pub number_is : Reads l at (Some (Number value next)) (number_field (drop at l))
      unfolding field_as closed_as Within
      number_is = record { fact_1 = c (num value) ∙ number_then; fact_2 = (omega arith, v.1) }

      -- "optional minus": −0 is the number 0
      pub minus_zero : value ≡ 0 → Reads l at (Some (Number 0 next)) (minus_field (drop at l))
      unfolding field_as closed_as Within negative
      minus_zero z =
          let s : num 0 ≡ negative value = ap negative (sym z) in
          record { fact_1 = ap (λ f. closed_as f l (Some next)) s ∙ c (negative value) ∙ minus_then; fact_2 = (omega arith, v.1) }

      pub minus_is : (value ≡ 0 → ⊥) → Reads l at (Some (Minus value next)) (minus_field (drop at l))
      unfolding field_as closed_as Within
      minus_is z =
          record { fact_1 = ap (λ f. closed_as f l (Some next)) (below_zero value z) ∙ c (negative value) ∙ minus_then; fact_2 = (omega arith, v.1) }

-- ---- names

module _ (l : List ℕ) (at end : ℕ) (k : NameEnds l at end) where
  name_then : finish (name (take (end - at) (drop at l))) (drop end l) ≡ name_field (drop at l)
  unfolding name_field and_then
  name_then = sym (ap (λ m. and_then m (λ s r. finish (name s) r)) k.same)

  pub name_open : Closes l end None → Reads l at None (name_field (drop at l))
  name_open c = open_reads l at end _ _ name_then c

  pub name_is : (next : ℕ) → Closes l end (Some next) → EndWithin l end (Some next) → Reads l at (Some (Name at end next)) (name_field (drop at l))
  unfolding field_as closed_as Within
  name_is next c v =
      let (a, b) : (at ≤ end) × (end ≤ length l) = (k.low, k.high) in
      record { fact_1 = c (name (take (end - at) (drop at l))) ∙ name_then; fact_2 = (a, b, omega arith, v.1) }

-- ---- by the first byte after the blanks

module _ (l : List ℕ) (at p : ℕ) (k : Skipped l at p) where
  pub first_none : length l ≤ p → Reads l at None (read_field (drop at l))
  unfolding read_field field_of
  first_none h = none_reads l at _ (rw (k.same, drop_of_length-le l h))

  module _ (h : p < length l) where
    after : (r : Option FieldAt) (q : ℕ) → p ≤ q → field_as l r ≡ field_of (get_or l p 0 ∷ drop (suc p) l) → Within l q r → Reads l at r (read_field (drop at l))
    unfolding read_field
    after r q m e w =
        let low = k.low in
        record { fact_1 = e ∙ ap field_of (sym (k.same ∙ drop-cons l p 0 h)); fact_2 = within_from l at q r (omega arith) w }

    pub first_quote : get_or l p 0 ≡ 34 → (r : Option FieldAt) → Reads l (p + 1) r (quoted_field (drop (p + 1) l)) → Reads l at r (read_field (drop at l))
    unfolding field_of quoted_field pick
    first_quote t r e = after r (p + 1) (omega arith) (e.fact_1 ∙ rw (add-one p, eq-eqb (get_or l p 0) 34 t)) e.fact_2

    module _ (n1 : get_or l p 0 ≡ 34 → ⊥) where
      pub first_minus : get_or l p 0 ≡ 45 → (r : Option FieldAt) → Reads l (p + 1) r (minus_field (drop (p + 1) l)) → Reads l at r (read_field (drop at l))
      unfolding field_of minus_field pick
      first_minus t r e = after r (p + 1) (omega arith) (e.fact_1 ∙ rw (add-one p, ne_eqb (get_or l p 0) 34 n1, eq-eqb (get_or l p 0) 45 t)) e.fact_2

      module _ (n2 : get_or l p 0 ≡ 45 → ⊥) where
        pub first_digit : is_digit (get_or l p 0) ≡ true → (r : Option FieldAt) → Reads l p r (number_field (drop p l)) → Reads l at r (read_field (drop at l))
        unfolding field_of number_field pick
        first_digit t r e =
            after r p (omega arith) (e.fact_1 ∙ rw (drop-cons l p 0 h, ne_eqb (get_or l p 0) 34 n1, ne_eqb (get_or l p 0) 45 n2, t)) e.fact_2

        pub first_letter : is_digit (get_or l p 0) ≡ false → is_letter (get_or l p 0) ≡ true → (r : Option FieldAt) → Reads l p r (name_field (drop p l))
            → Reads l at r (read_field (drop at l))
        unfolding field_of name_field pick
        first_letter n3 t r e =
            after r p (omega arith) (e.fact_1 ∙ rw (drop-cons l p 0 h, ne_eqb (get_or l p 0) 34 n1, ne_eqb (get_or l p 0) 45 n2, n3, t)) e.fact_2

        pub first_other : is_digit (get_or l p 0) ≡ false → is_letter (get_or l p 0) ≡ false → Reads l at None (read_field (drop at l))
        unfolding field_of read_field pick
        first_other n3 n4 =
            none_reads l at _ (rw (k.same, drop-cons l p 0 h, ne_eqb (get_or l p 0) 34 n1, ne_eqb (get_or l p 0) 45 n2, n3, n4))
