-- The loops over the fields of a line.
use mathlib.Core.Path.{◌≡◌, refl, sym, ap, ◌∙◌}
use Prim.Native.Nat.{ℕ, suc, ◌+◌, ◌<◌, ◌≤◌}
use Rattle.std.proofs.Common.{Option, Some, None}
use mathlib.Core.List.{List, [], ◌∷◌, ◌++◌, append_assoc}
use native.Mathlib.Omega.{arith}
use native.Mathlib.Numerals.{add-one}
use lib.ListN.{length, drop, get_or, length-append, drop_of_length-le}
use lib.Seq.{drop-cons, drop_at, get_or-drop}
use Rattle.event.specs.Outcome.{Outcome, ok, refused, and_then}
use Rattle.event.specs.Bytes.{Bytes}
use Rattle.event.proofs.BytesLaws.{bytes_drop}
use Rattle.event.proofs.OutcomeLaws.{not_ok, ok_same, and_then_ok, and_then_eq}
use Rattle.midicsv.specs.Field.{Field, num}
use Rattle.midicsv.specs.ReadField.{read_field, onward, all_fields}
use Rattle.midicsv.proofs.FieldsLaws.{fields_step}
use Rattle.midicsv_scan.specs.FieldAt.{next_of, field_as, Within, Counted, Begins, FieldIs}
use Rattle.midicsv_scan.specs.Part.{EndWithin, FieldEnds}
use Rattle.midicsv_scan.specs.declared.FieldAt.{FieldAt}
use Rattle.midicsv_scan.specs.declared.FieldAt.TheVariants.{Number, Minus, Name, Quoted}
use Rattle.midicsv_scan.proofs.FieldLaws.{Reads, within_from}

-- ---- the end of a field, whatever the field

-- what is answered of where a field ends
abbrev pub EndsAt : List ℕ → ℕ → Option ℕ → Type 0
EndsAt l at r = record { fact_1 : FieldEnds l at r; fact_2 : EndWithin l at r }

module _ (l : List ℕ) (at : ℕ) where
  pub field_ends : (f : FieldAt) → Reads l at (Some f) (read_field (drop at l)) → EndsAt l at (Some (next_of f))
  unfolding field_as Within FieldEnds
  field_ends (Number v q) e = record { fact_1 = (_, sym e.fact_1); fact_2 = e.fact_2 }
  field_ends (Minus v q) e = record { fact_1 = (_, sym e.fact_1); fact_2 = e.fact_2 }
  field_ends (Name s t q) e = let w = e.fact_2 in record { fact_1 = (_, sym e.fact_1); fact_2 = (w.2, w.3) }
  field_ends (Quoted s q) e = let w = e.fact_2 in record { fact_1 = (_, sym e.fact_1); fact_2 = (w.1, w.2) }

  pub bad_ends : Reads l at None (read_field (drop at l)) → EndsAt l at None
  unfolding field_as FieldEnds
  bad_ends e = record { fact_1 = sym e.fact_1; fact_2 = tt }

-- ---- the loop: n fields stand before the place at

-- the fields that are done, before those that follow
abbrev before : List Field → Outcome (List Field) → Outcome (List Field)
before done m = and_then m (λ fs q. ok (done ++ fs) q)

pub record Counting (l : List ℕ) (at n : ℕ) : Type 0 where
  pub high : at ≤ length l
  pub few : n ≤ at
  pub done : List Field
  pub size : length done ≡ n
  pub same : all_fields l ≡ before done (all_fields (drop at l))

before_none : (m : Outcome (List Field)) → m ≡ before [] m
unfolding and_then
before_none (ok fs q) = refl
before_none (refused n p) = refl

pub counting_first : (l : List ℕ) → Counting l 0 0
counting_first l = record { high = omega arith; few = omega arith; done = []; size = refl; same = before_none (all_fields l) }

before_one : (done : List Field) (f : Field) (m : Outcome (List Field)) → before done (and_then m (λ fs q. ok (f ∷ fs) q)) ≡ before (done ++ (f ∷ [])) m
unfolding and_then
before_one done f (ok fs q) = ap (λ x. ok x q) (sym (append_assoc done (f ∷ []) fs))
before_one done f (refused n p) = refl

module _ {l : List ℕ} {at n : ℕ} (b : Bytes l) (g : Counting l at n) where
  -- the next field, and what follows it
  next_field : (f : Field) (q : ℕ) → read_field (drop at l) ≡ ok f (drop q l) → all_fields l ≡ before g.done (onward f (drop q l) all_fields)
  next_field f q e = g.same ∙ ap (before g.done) (fields_step (drop at l) (bytes_drop l at b) ∙ and_then_eq (λ f r. onward f r all_fields) e)

  last_field : (f : Field) (q : ℕ) → read_field (drop at l) ≡ ok f (drop q l) → length l ≤ q → all_fields l ≡ ok (g.done ++ (f ∷ [])) []
  unfolding onward and_then
  last_field f q e h = next_field f q e ∙ ap (λ x. before g.done (onward f x all_fields)) (drop_of_length-le l h)

  no_field : read_field (drop at l) ≡ refused 22 0 → all_fields l ≡ refused 22 0
  unfolding and_then
  no_field e = g.same ∙ ap (before g.done) (fields_step (drop at l) (bytes_drop l at b) ∙ ap (λ m. and_then m (λ f r. onward f r all_fields)) e)

  one_more : (f : Field) → length (g.done ++ (f ∷ [])) ≡ n + 1
  one_more f = length-append g.done (f ∷ []) ∙ ap (λ x. x + 1) g.size

  pub counting_bad : FieldEnds l at None → Counted l None
  unfolding FieldEnds Counted
  counting_bad e = no_field e

  module _ (q : ℕ) (e : EndsAt l at (Some q)) where
    pub counting_on : q < length l → Counting l (q + 1) (n + 1)
    unfolding FieldEnds onward
    counting_on h =
        let (f, y) = e.fact_1 in
        let (low, few) : (at ≤ q) × (n ≤ at) = (e.fact_2.0, g.few) in
        record {
          high = omega arith;
          few = omega arith;
          done = g.done ++ (f ∷ []);
          size = one_more f;
          same = next_field f q y
              ∙ ap (λ x. before g.done (onward f x all_fields)) (drop-cons l q 0 h)
              ∙ before_one g.done f (all_fields (drop (suc q) l))
              ∙ ap (λ i. before (g.done ++ (f ∷ [])) (all_fields (drop i l))) (sym (add-one q));
        }

    pub counting_last : length l ≤ q → Counted l (Some (n + 1))
    unfolding FieldEnds Counted
    counting_last h = let (f, y) = e.fact_1 in (g.done ++ (f ∷ []), last_field f q y h, one_more f)

  -- ---- the place of the field numbered i

  -- no field here, or too few of them: then the line is not of the kind asked for
  pub place_bad : (i : ℕ) → FieldEnds l at None → Begins l i at
  unfolding FieldEnds
  place_bad i e = record { inside = g.high; rest = λ fs o h. not_ok (sym (no_field e) ∙ o) }

  pub place_few : (i q : ℕ) → EndsAt l at (Some q) → length l ≤ q → n < i → Begins l i q
  unfolding FieldEnds
  place_few i q e h m =
      let (f, y) = e.fact_1 in
      record {
        inside = e.fact_2.1;
        rest = λ fs o k.
            ok_same (g.done ++ (f ∷ [])) fs [] [] (sym (last_field f q y h) ∙ o) (λ a c.
            let s : length fs ≡ n + 1 = ap length (sym a) ∙ one_more f in absurd (omega arith));
      }

-- where n fields stand before a place, there the field numbered n begins
pub place_found : {l : List ℕ} {at n : ℕ} → Counting l at n → Begins l n at
place_found {l} {at} {n} g =
    record {
      inside = g.high;
      rest = λ fs e h.
          and_then_ok (all_fields (drop at l)) (λ gs q. ok (g.done ++ gs) q) fs [] (sym g.same ∙ e) (λ gs q m y.
          ok_same (g.done ++ gs) fs q [] y (λ a c.
          m ∙ ap (ok gs) c ∙ ap (λ x. ok x []) (sym (drop_at g.done gs n g.size) ∙ ap (drop n) a)));
    }

-- ---- the field numbered i

onward_first : (f : Field) (m : List ℕ) (k : List ℕ → Outcome (List Field)) (fs : List Field) (q : List ℕ) → onward f m k ≡ ok fs q → get_or fs 0 (num 0) ≡ f
unfolding onward
onward_first f [] k fs q e = ok_same (f ∷ []) fs [] q e (λ p z. rw (← p))
onward_first f (c ∷ l) k fs q e = and_then_ok (k l) _ fs q e (λ gs r m y. ok_same (f ∷ gs) fs r q y (λ p z. rw (← p)))

pub field_is : (l : List ℕ) (i p : ℕ) (r : Option FieldAt) → Bytes l → Begins l i p → Reads l p r (read_field (drop p l)) → FieldIs l i r
field_is l i p r b g e =
    record {
      within = within_from l 0 p r (omega arith) e.fact_2;
      field = λ fs o h.
          and_then_ok (read_field (drop p l)) (λ f m. onward f m all_fields) (drop i fs) [] (sym (fields_step (drop p l) (bytes_drop l p b)) ∙ g.rest fs o h) (λ f m y k.
          let z : i + 0 ≡ i = omega arith in
          let first : get_or fs i (num 0) ≡ f = ap (λ j. get_or fs j (num 0)) (sym z) ∙ sym (get_or-drop i fs 0 (num 0)) ∙ onward_first f m all_fields (drop i fs) [] k in
          (m, e.fact_1 ∙ y ∙ ap (λ x. ok x m) (sym first)));
    }
