-- The fields of a row, taken one by one, are its line.
use mathlib.Core.Path.{◌≡◌, refl, sym, ap, ap₂, ◌∙◌}
use Prim.Native.Nat.{ℕ, zero, suc, max, ◌+◌, ◌<◌, ◌≤◌}
use mathlib.Core.Bool.{true, false}
use mathlib.Core.List.{List, [], ◌∷◌, ◌++◌}
use native.Mathlib.Omega.{arith}
use lib.ListN.{length, length-append}
use lib.Dec.{ltb, eqb}
use borrow.Author.Tests.{eq-eqb, ne_eqb, lt-ltb, le-ltb, ltb-true, ltb-false}
use Rattle.std.proofs.Common.{Option, Some, None}
use Rattle.event.specs.Choice.{pick}
use Rattle.event.proofs.ChoiceLaws.{by_test}
use Rattle.midicsv.specs.ReadField.{read_field}
use Rattle.sheet_table.specs.Table.{is_empty, keep_before, drop_empty, plain_cell, plain_cells, fields_to, name_in, text_of_name, text_at, row_fields}
use Rattle.sheet.specs.Code.Row.{place_as, field_at, fields_in, field_count, Looked}
use Rattle.sheet.specs.Code.Walk.{Grown}
use Rattle.sheet.specs.declared.Row.{Row}

-- ---- the cells up to the last that is not empty

-- a cell in front of them, counted beside so many others
kept_cons : (c : List ℕ) (d : List (List ℕ)) (m : ℕ) → max (length (keep_before c d)) (suc m) ≡ suc (max (length d) m)
unfolding keep_before pick
kept_cons c [] m = by_test (is_empty c) (λ e. rw e (omega arith)) (λ e. rw e (omega arith))
kept_cons c (x ∷ d) m = omega arith

-- ---- rows and parts of rows without a text

module _ (place : Option ℕ) where
  -- from the cell numbered i on no field is the text
  abbrev PlainFrom : ℕ → Type 0
  PlainFrom i = (j : ℕ) (c : List ℕ) → i ≤ j → field_at place j c ≡ plain_cell c

  keep_fields : (i : ℕ) (c : List ℕ) (cs d : List (List ℕ)) → PlainFrom i → fields_in (length d) place (suc i) cs ≡ plain_cells d
      → fields_in (length (keep_before c d)) place i (c ∷ cs) ≡ plain_cells (keep_before c d)
  unfolding fields_in keep_before plain_cells pick
  keep_fields i c cs [] h e = by_test (is_empty c) (λ z. rw z) (λ z. rw (z, h i c (omega arith)))
  keep_fields i c cs (x ∷ d) h e = rw (h i c (omega arith), e)

  plain_fields : (i : ℕ) (cs : List (List ℕ)) → PlainFrom i → fields_in (length (drop_empty cs)) place i cs ≡ plain_cells (drop_empty cs)
  unfolding fields_in drop_empty plain_cells
  plain_fields i [] h = refl
  plain_fields i (c ∷ cs) h = keep_fields i c cs (drop_empty cs) h (plain_fields (suc i) cs (λ j x g. h j x (omega arith)))

plain_none : PlainFrom None 0
unfolding field_at pick
plain_none j c g = refl

plain_past : (place i : ℕ) → place < i → PlainFrom (Some place) i
unfolding field_at pick
plain_past place i h j c g = rw (ne_eqb place j (omega arith))

-- ---- rows with a text after k more cells

-- how many fields they have
abbrev count_to : ℕ → List (List ℕ) → ℕ
count_to k cs = pick (ltb (length cs) k) (length cs) (max (length (drop_empty cs)) (suc k))

count_cons : (k : ℕ) (c : List ℕ) (cs : List (List ℕ)) → count_to (suc k) (c ∷ cs) ≡ suc (count_to k cs)
unfolding drop_empty pick
count_cons k c cs =
    by_test (ltb (length cs) k)
    (λ e. let h = ltb-true (length cs) k e in rw (e, lt-ltb (suc (length cs)) (suc k) (omega arith)))
    (λ e. let h = ltb-false (length cs) k e in rw (e, le-ltb (suc (length cs)) (suc k) (omega arith), kept_cons c (drop_empty cs) (suc k)))

fields_to_lem : (place k i : ℕ) (cs : List (List ℕ)) → place ≡ i + k → fields_to k cs ≡ fields_in (count_to k cs) (Some place) i cs
unfolding fields_to fields_in field_at pick drop_empty
fields_to_lem place zero i [] p = rw (eq-eqb place i (omega arith))
fields_to_lem place zero i (c ∷ cs) p =
    let none : ltb (suc (length cs)) 0 ≡ false = le-ltb (suc (length cs)) 0 (omega arith) in
    let count : count_to 0 (c ∷ cs) ≡ suc (length (drop_empty cs)) = rw (none, kept_cons c (drop_empty cs) 0) (omega arith) in
    rw (count, eq-eqb place i (omega arith), plain_fields (Some place) (suc i) cs (plain_past place (suc i) (omega arith)))
fields_to_lem place (suc k) i [] p = rw (lt-ltb 0 (suc k) (omega arith))
fields_to_lem place (suc k) i (c ∷ cs) p = rw (count_cons k c cs, ne_eqb place i (omega arith), fields_to_lem place k (suc i) cs (omega arith))

-- ---- the line

pub row_fields_lem : (place : Option ℕ) (cs : List (List ℕ)) → place_as place ≡ text_at cs → row_fields (text_at cs) cs ≡ fields_in (field_count place (length cs) (length (drop_empty cs))) place 0 cs
unfolding place_as row_fields field_count field_at pick
row_fields_lem None cs e = rw (← e) (sym (plain_fields None 0 cs plain_none))
row_fields_lem (Some k) cs e = rw (← e) (fields_to_lem k k 0 cs (omega arith))

-- ---- one more cell at a row's end

empty_snoc : (front : List (List ℕ)) (c : List ℕ) → is_empty c ≡ true → drop_empty (front ++ (c ∷ [])) ≡ drop_empty front
unfolding drop_empty keep_before pick
empty_snoc [] c e = rw e
empty_snoc (x ∷ front) c e = ap (keep_before x) (empty_snoc front c e)

keep_snoc : (x : List ℕ) (front : List (List ℕ)) (c : List ℕ) → keep_before x (front ++ (c ∷ [])) ≡ x ∷ (front ++ (c ∷ []))
unfolding keep_before
keep_snoc x [] c = refl
keep_snoc x (y ∷ front) c = refl

full_snoc : (front : List (List ℕ)) (c : List ℕ) → is_empty c ≡ false → drop_empty (front ++ (c ∷ [])) ≡ front ++ (c ∷ [])
unfolding drop_empty keep_before pick
full_snoc [] c e = rw e
full_snoc (x ∷ front) c e = ap (keep_before x) (full_snoc front c e) ∙ keep_snoc x front c

kept_snoc : (front : List (List ℕ)) (c : List ℕ) → length (drop_empty (front ++ (c ∷ []))) ≡ pick (is_empty c) (length (drop_empty front)) (length front + 1)
unfolding pick
kept_snoc front c =
    by_test (is_empty c)
    (λ e. rw e (ap length (empty_snoc front c e)))
    (λ e. rw e (ap length (full_snoc front c e) ∙ length-append front (c ∷ [])))

text_snoc : (front : List (List ℕ)) (c : List ℕ) → text_at (front ++ (c ∷ [])) ≡ pick (eqb (length front + 1) 3) (text_of_name (name_in (read_field c))) (text_at front)
unfolding text_at pick
text_snoc [] c = refl
text_snoc (x ∷ []) c = refl
text_snoc (x ∷ y ∷ []) c = refl
text_snoc (x ∷ y ∷ z ∷ front) c = rw (ne_eqb (suc (suc (suc (length front))) + 1) 3 (omega arith))

pub looked_more : {front : List (List ℕ)} {r s : Row} {c : List ℕ} → Looked front r → Grown r c s → Looked (front ++ (c ∷ [])) s
looked_more {front} {r} {s} {c} k g = record {
  cells = g.cells ∙ ap (λ n. n + 1) k.cells ∙ sym (length-append front (c ∷ []));
  kept = g.kept ∙ ap₂ (λ m n. pick (is_empty c) m (n + 1)) k.kept k.cells ∙ sym (kept_snoc front c);
  place = g.place ∙ ap₂ (λ m n. pick (eqb (n + 1) 3) (text_of_name (name_in (read_field c))) m) k.place k.cells ∙ sym (text_snoc front c);
}

-- ---- how many fields a row has

module _ (place : Option ℕ) (cells kept : ℕ) where
  pub count_nowhere : place ≡ None → kept ≡ field_count place cells kept
  unfolding field_count
  count_nowhere e = rw e

  pub count_short : (k : ℕ) → place ≡ Some k → cells < k → cells ≡ field_count place cells kept
  unfolding field_count pick
  count_short k e l = rw (e, lt-ltb cells k l)

  pub count_text : (k : ℕ) → place ≡ Some k → k ≤ cells → max kept (k + 1) ≡ field_count place cells kept
  unfolding field_count pick
  count_text k e l = rw (e, le-ltb cells k l) (omega arith)

-- at most one more than its cells
kept_few : (cs : List (List ℕ)) → length (drop_empty cs) ≤ length cs
unfolding drop_empty
kept_few [] = omega arith
kept_few (c ∷ cs) = let h = kept_few cs in omega (arith, kept_cons c (drop_empty cs) 0)

pub count_few : (place : Option ℕ) (cs : List (List ℕ)) → field_count place (length cs) (length (drop_empty cs)) ≤ suc (length cs)
unfolding field_count pick
count_few None cs = omega (arith, kept_few cs)
count_few (Some k) cs =
    by_test (ltb (length cs) k)
    (λ e. rw e (omega arith))
    (λ e. let h = ltb-false (length cs) k e in rw e (omega (arith, kept_few cs)))
