-- A row written field by field.
use mathlib.Core.Path.{◌≡◌, refl, sym, ap, subst, ◌∙◌}
use Prim.Native.Nat.{ℕ, zero, suc, ◌+◌, ◌*◌, ◌<◌, ◌≤◌}
use mathlib.Core.Bool.{Bool}
use mathlib.Core.List.{List, [], ◌∷◌, ◌++◌}
use native.Mathlib.Omega.{arith}
use native.Mathlib.Numerals.{add-one}
use lib.ListN.{length, drop, drop_of_length-le}
use lib.Dec.{eqb}
use borrow.Author.Tests.{ne_eqb}
use Rattle.std.proofs.Common.{Option, Some, None}
use Rattle.std.specs.Option.{option_eq}
use Rattle.event.specs.Choice.{pick}
use Rattle.event_write.specs.Written.{Written}
use Rattle.event_write.proofs.WriteLaws.{Remains, all_remains, go_on_lem, done}
use Rattle.midicsv.specs.Result.{Result, good, bad}
use Rattle.sheet_table.specs.Cut.{begins, skip_beside, opening, cut_from, cut}
use Rattle.sheet_table.specs.Table.{requote, plain_cell, further_joined, joined}
use Rattle.sheet.specs.Code.Seen.{seen}
use Rattle.sheet_table.specs.Code.Cells.{cons_cell}
use Rattle.sheet.specs.Code.Cell.{CellAt}
use Rattle.sheet.specs.Code.Row.{is_text, field_at, fields_in}
use Rattle.sheet.specs.Code.Walk.{Stepped, ended, passed, comma, fields_of, Fielded}
use Rattle.sheet.specs.declared.Cell.{Cell}
use Rattle.sheet.proofs.RowBoundLaws.{line_few}
use Rattle.sheet.proofs.WalkLaws.{in_cell, seen_none, cell_last, cell_next}

-- past the last cell there is as it were an empty one
fields_past : (n : ℕ) (place : Option ℕ) (i : ℕ) → fields_in n place i [] ≡ fields_in n place i ([] ∷ [])
unfolding fields_in
fields_past zero place i = refl
fields_past (suc n) place i = refl

cut_none : (sep : ℕ) (twice : Bool) (l : List ℕ) (p : ℕ) → length l ≤ p → cut sep (seen twice (drop p l)) ≡ good ([] ∷ [])
unfolding cut opening begins skip_beside cut_from pick
cut_none sep twice l p h = ap (cut sep) (ap (seen twice) (drop_of_length-le l h) ∙ seen_none twice)

cons_good {ℓ} : {X : Type ℓ} (c : List ℕ) (m : Result (List (List ℕ))) (cs : List (List ℕ)) → cons_cell c m ≡ good cs → ((ds : List (List ℕ)) → m ≡ good ds → cs ≡ c ∷ ds → X) → X
unfolding cons_cell
cons_good c (good ds) cs e k = k ds refl (cc)
cons_good c (bad n) cs e k = let z : ◌≡◌ {A = ℕ} 0 1 = cc in absurd (omega arith)

-- the cell c, and then cells whose fields are those after it
module _ (sep : ℕ) (twice : Bool) (l : List ℕ) {p : ℕ} {c : Cell} (k : CellAt sep twice l p c) (cs : List (List ℕ)) (e : cut sep (seen twice (drop p l)) ≡ good cs) where
  pub cells_on {ℓ} : {X : Type ℓ} {q : ℕ} → Stepped twice l c.next q
      → ((ds : List (List ℕ)) → cut sep (seen twice (drop q l)) ≡ good ds → ((n : ℕ) (place : Option ℕ) (i : ℕ) → fields_in (suc n) place i cs ≡ field_at place i (in_cell twice l c) ∷ fields_in n place (suc i) ds) → X) → X
  unfolding fields_in
  cells_on {q = q} (ended h z) f =
      let last = cell_last k h in
      let all : cs ≡ in_cell twice l c ∷ [] = cc in
      f ([] ∷ []) (cut_none sep twice l q (omega arith)) (λ n place i. ap (fields_in (suc n) place i) all ∙ ap (λ fs. field_at place i (in_cell twice l c) ∷ fs) (fields_past n place (suc i)))
  cells_on {q = q} (passed t) f =
      cons_good (in_cell twice l c) (cut sep (seen twice (drop q l))) cs (sym (cell_next k _ q t.rest) ∙ e) (λ ds y all.
      f ds y (λ n place i. ap (fields_in (suc n) place i) all))

-- ---- a comma, and a field

pub no_comma : (i : ℕ) → i ≡ 0 → comma i ≡ []
unfolding comma pick
no_comma i e = rw e

pub a_comma : (i : ℕ) → (i ≡ 0 → ⊥) → comma i ≡ 44 ∷ []
unfolding comma pick
a_comma i h = rw (ne_eqb i 0 h)

pub comma_few : (i : ℕ) → length (comma i) ≤ 1
comma_few zero = rw (no_comma zero refl) (omega arith)
comma_few (suc i) = rw (a_comma (suc i) (λ e. omega arith)) (omega arith)

-- what `==` answers
pub is_at : (place : Option ℕ) (i : ℕ) → option_eq eqb place (Some i) ≡ is_text place i
is_at None i = refl
is_at (Some k) i = refl

pub as_field : {old new : List ℕ} {at next : ℕ} (t : Bool) (place : Option ℕ) (i : ℕ) (c : List ℕ) → t ≡ is_text place i
    → Written old at (pick t (requote c) (plain_cell c)) new next → Written old at (field_at place i c) new next
unfolding field_at
as_field t place i c e w = rw e at w

-- ---- the loop

-- what is to be written before the field numbered i: the fields, a comma before each but the first of all
abbrev pub fields_left : ℕ → Option ℕ → ℕ → List (List ℕ) → List ℕ
fields_left n place i cs = pick (eqb i 0) (joined (fields_in n place i cs)) (further_joined (fields_in n place i cs))

pub record RowLeft (sep : ℕ) (twice : Bool) (l : List ℕ) (count : ℕ) (place : Option ℕ) (old : List ℕ) (from : ℕ) (out : List ℕ) (next p i : ℕ) : Type 0 where
  pub cells : List (List ℕ)
  pub cutting : cut sep (seen twice (drop p l)) ≡ good cells
  pub left : ℕ
  pub counted : left + i ≡ count
  pub inside : p ≤ length l
  pub remains : Remains old from (fields_of count place (cut sep (seen twice l))) out next (fields_left left place i cells)

fielded_good : (count : ℕ) (m : Result (List (List ℕ))) → Fielded count m → (cs : List (List ℕ)) × (m ≡ good cs)
unfolding Fielded
fielded_good count (good cs) h = (cs, refl)
fielded_good count (bad n) h = absurd h

pub row_first : (sep : ℕ) (twice : Bool) (l : List ℕ) (count : ℕ) (place : Option ℕ) (old : List ℕ) (from : ℕ) → Fielded count (cut sep (seen twice l))
    → RowLeft sep twice l count place old from old from 0 0
unfolding fields_of pick
row_first sep twice l count place old from h =
    let (cs, e) = fielded_good count (cut sep (seen twice l)) h in
    record {
      cells = cs;
      cutting = e;
      left = count;
      counted = omega arith;
      inside = omega arith;
      remains = subst (λ z. Remains old from (fields_of count place (cut sep (seen twice l))) old from z) (ap (fields_of count place) e) (all_remains old from (fields_of count place (cut sep (seen twice l))));
    }

-- after the first field
later : (n : ℕ) (place : Option ℕ) (i : ℕ) (cs : List (List ℕ)) → 0 < i → fields_left n place i cs ≡ further_joined (fields_in n place i cs)
unfolding pick
later n place i cs h = rw (ne_eqb i 0 (omega arith))

-- a field, and a comma before it that is not the first
fields_turn : (n : ℕ) (place : Option ℕ) (i : ℕ) (cs ds : List (List ℕ)) (x : List ℕ) → fields_in (suc n) place i cs ≡ x ∷ fields_in n place (suc i) ds
    → fields_left (suc n) place i cs ≡ comma i ++ (x ++ fields_left n place (i + 1) ds)
unfolding joined further_joined comma pick
fields_turn n place zero cs ds x e = rw e
fields_turn n place (suc i) cs ds x e =
    later (suc n) place (suc i) cs (omega arith)
    ∙ ap further_joined e
    ∙ sym (ap (λ z. comma (suc i) ++ (x ++ z)) (later n place (suc i + 1) ds (omega arith) ∙ ap (λ j. further_joined (fields_in n place j ds)) (add-one (suc i))) ∙ ap (λ z. z ++ (x ++ further_joined (fields_in n place (suc (suc i)) ds))) (a_comma (suc i) (λ z. omega arith)))

none_left : (n : ℕ) (place : Option ℕ) (i : ℕ) (cs : List (List ℕ)) → n ≡ 0 → fields_left n place i cs ≡ []
unfolding fields_in joined further_joined pick
none_left n place zero cs z = rw z
none_left n place (suc i) cs z = later n place (suc i) cs (omega arith) ∙ rw z

one_less : (m : ℕ) → 0 < m → (n : ℕ) × (m ≡ suc n)
one_less zero h = absurd (omega arith)
one_less (suc n) h = (n, refl)

module _ {sep : ℕ} {twice : Bool} {l : List ℕ} {count : ℕ} {place : Option ℕ} {old : List ℕ} {from : ℕ} {out : List ℕ} {next p i : ℕ} (g : RowLeft sep twice l count place old from out next p i) where
  pub row_place : Fielded count (cut sep (seen twice l)) → next ≤ from + (3 * length l + 6)
  row_place h = omega (arith, g.remains.place, line_few sep twice count place l h)

  -- it can be cut here
  pub row_open {ℓ} : {X : Type ℓ} → cut sep (seen twice (drop p l)) ≡ bad 22 → X
  row_open e = let h = g.cutting in let z : ◌≡◌ {A = ℕ} 0 1 = cc in absurd (omega arith)

  pub row_on : {c : Cell} {q m next' : ℕ} {mid new : List ℕ} → CellAt sep twice l p c → i < count → Written out next (comma i) mid m
      → Written mid m (field_at place i (in_cell twice l c)) new next' → Stepped twice l c.next q → q ≤ length l → RowLeft sep twice l count place old from new next' q (i + 1)
  row_on {c} k h a b s w =
      let counted = g.counted in
      let (n, z) = one_less g.left (omega arith) in
      let x = field_at place i (in_cell twice l c) in
      cells_on sep twice l k g.cells g.cutting s (λ ds e turn.
      record {
        cells = ds;
        cutting = e;
        left = n;
        counted = omega arith;
        inside = w;
        remains =
            go_on_lem (x ++ fields_left n place (i + 1) ds) x (fields_left n place (i + 1) ds)
            (go_on_lem (fields_left g.left place i g.cells) (comma i) (x ++ fields_left n place (i + 1) ds) g.remains
            (ap (λ j. fields_left j place i g.cells) z ∙ fields_turn n place i g.cells ds x (turn n place i)) a) refl b;
      })

  pub row_done : count ≤ i → Written old from (fields_of count place (cut sep (seen twice l))) out next
  row_done h =
      let counted = g.counted in
      let z : g.left ≡ 0 = omega arith in
      done (fields_left g.left place i g.cells) g.remains (none_left g.left place i g.cells z)
