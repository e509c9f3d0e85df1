-- The tests of a line put in their order.
use mathlib.Core.Path.{◌≡◌, refl, sym, ◌∙◌, ap}
use Prim.Native.Nat.{ℕ, ◌+◌, ◌<◌, ◌≤◌}
use mathlib.Core.Bool.{Bool, true, false}
use mathlib.Core.List.{List, [], ◌∷◌}
use native.Mathlib.Omega.{arith}
use lib.ListN.{length, get_or, take, drop}
use lib.Dec.{ltb, eqb}
use Rattle.event.specs.Outcome.{ok, value_or}
use Rattle.midicsv.specs.Field.{Field, num}
use Rattle.midicsv.specs.Table.{RecordName, header, start_track, end_of_file, event, Tail, none, one_text, sized, shape}
use Rattle.midicsv.specs.ReadField.{all_fields}
use Rattle.midicsv.specs.Result.{Result, good, bad, next, test}
use Rattle.midicsv.specs.Names.{name_from}
use Rattle.midicsv.specs.ReadRecord.{size_of, counted, together, record_of, of_fields, read_line}
use Rattle.midicsv_scan.specs.FieldAt.{Counted, FieldIs}
use Rattle.midicsv_record.specs.Name.{name_at, name_as}
use Rattle.midicsv_record.specs.declared.Name.{Name}
use Rattle.midicsv_record.specs.Table.{columns_at, tail_at}
use Rattle.midicsv_record.specs.Column.{field_in, fields_in, later_in}
use Rattle.midicsv_record.specs.Line.{Fields, size_in, values_of, row_in, named_in}
use Rattle.midicsv_scan.specs.declared.FieldAt.{FieldAt}
use Rattle.std.specs.Prelude.{Some, None}
use Rattle.midicsv_record.proofs.FieldInLaws.{field_in_lem}

-- the Header alone asks for more
pub together_cut : (n : RecordName) (ns : List ℕ) → together n (take (length (shape n).columns) ns) ≡ together n ns
unfolding together shape
together_cut header [] = refl
together_cut header (a ∷ []) = refl
together_cut header (a ∷ b ∷ ns) = refl
together_cut start_track ns = refl
together_cut end_of_file ns = refl
together_cut (event g) ns = refl

-- ---- the count, then the values

module _ {A : Type 0} where
  test_next : (t : Bool) (x : ℕ) (m : Result A) → test t 24 m ≡ next (test t 24 (good x)) (λ y. m)
  unfolding test next
  test_next true x m = refl
  test_next false x m = refl

  sized_next : (t : Bool) (s : Result ℕ) (u : ℕ → Bool) (x : ℕ) (m : Result A)
      → test t 24 (next s (λ n. test (u n) 24 m)) ≡ next (test t 24 (next s (λ n. test (u n) 24 (good x)))) (λ y. m)
  unfolding test next
  sized_next true (good n) u x m = test_next (u n) x m
  sized_next true (bad n) u x m = refl
  sized_next false s u x m = refl

  counted_next : (k : ℕ) (t : Tail) (fs : List Field) (x : ℕ) (m : Result A) → counted k t fs m ≡ next (counted k t fs (good x)) (λ y. m)
  unfolding counted
  counted_next k none fs x m = test_next (eqb (length fs) k) x m
  counted_next k one_text fs x m = test_next (eqb (length fs) (k + 1)) x m
  counted_next k sized fs x m = sized_next (ltb k (length fs)) (size_of (get_or fs k (num 0))) (λ n. eqb (length fs) (k + 1 + n)) x m

pub size_wrong : (l : List ℕ) (n : Name) (number : ℕ) → bad number ≡ size_in n (later_in l) → bad number ≡ named_in l (name_as (Some n))
unfolding named_in name_as size_in next
size_wrong l n number e = sym (rw (counted_next (length (columns_at n)) (tail_at n) (later_in l) 0 (row_in l (name_at n)), ← e) refl)

pub size_right : (l : List ℕ) (n : Name) (len : ℕ) → good len ≡ size_in n (later_in l) → row_in l (name_at n) ≡ named_in l (name_as (Some n))
unfolding named_in name_as size_in next
size_right l n len e = sym (rw (counted_next (length (columns_at n)) (tail_at n) (later_in l) 0 (row_in l (name_at n)), ← e) refl)

pub name_wrong : (l : List ℕ) → bad 23 ≡ named_in l (name_as None)
unfolding named_in name_as next
name_wrong l = refl

-- ---- the fields, then the name

fields_are : (l : List ℕ) (fs : List Field) → all_fields l ≡ ok fs [] → fields_in l ≡ fs
unfolding value_or
fields_are l fs e = rw e refl

pub fields_count : (l : List ℕ) (count : ℕ) → Counted l (Some count) → 3 ≤ count → Fields l count
unfolding Counted
fields_count l count (fs, e, h) k = let z = fields_are l fs e in record { fields = rw z e; counts = rw z h; three = k }

few_fields : (fs : List Field) → length fs < 3 → bad 24 ≡ record_of fs
unfolding record_of
few_fields [] h = refl
few_fields (a ∷ []) h = refl
few_fields (a ∷ b ∷ []) h = refl
few_fields (a ∷ b ∷ c ∷ fs) h = absurd (omega arith)

pub line_few : (l : List ℕ) (count : ℕ) → Counted l (Some count) → count < 3 → bad 24 ≡ read_line l
unfolding Counted read_line of_fields
line_few l count (fs, e, h) k = rw e (few_fields fs (omega arith))

record_named : (fs : List Field) → 3 ≤ length fs
    → record_of fs ≡ next (name_from (get_or fs 2 (num 0))) (λ n. counted (length (shape n).columns) (shape n).tail (drop 3 fs) (values_of n (get_or fs 0 (num 0)) (get_or fs 1 (num 0)) (drop 3 fs)))
unfolding record_of values_of
record_named [] h = absurd (omega arith)
record_named (a ∷ []) h = absurd (omega arith)
record_named (a ∷ b ∷ []) h = absurd (omega arith)
record_named (a ∷ b ∷ c ∷ fs) h = refl

line_named : (l : List ℕ) (count : ℕ) → Fields l count → read_line l ≡ named_in l (name_from (get_or (fields_in l) 2 (num 0)))
unfolding read_line of_fields named_in
line_named l count a = ap of_fields a.fields ∙ record_named (fields_in l) (omega (arith, a.counts, a.three))

pub third_named : (l : List ℕ) (count : ℕ) → Fields l count → (r : FieldAt) → FieldIs l 2 (Some r) → read_line l ≡ named_in l (name_from (field_in l r))
third_named l count a r f = line_named l count a ∙ ap (λ x. named_in l (name_from x)) (sym (field_in_lem l 2 r a.fields (omega (arith, a.counts, a.three)) f))
