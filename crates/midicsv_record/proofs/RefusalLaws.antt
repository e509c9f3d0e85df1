-- The refusals of a line: by its third field, and by 25 alone where its name and the count of its fields fit.
use mathlib.Core.Path.{◌≡◌, refl, sym, ap, subst, ◌∙◌}
use Prim.Native.Nat.{ℕ, ◌+◌, ◌≤◌}
use mathlib.Core.Bool.{Bool, true, false}
use mathlib.Core.List.{List, [], ◌∷◌}
use native.Mathlib.Omega.{arith}
use lib.ListN.{length}
use borrow.Author.Tests.{eqb-true, ltb-true}
use Rattle.event.specs.Choice.{pick}
use Rattle.midicsv.specs.Field.{Field, num, minus, name, quoted}
use Rattle.midicsv.specs.Table.{RecordName, Column, range, key, mode, free_type, division, Tail, none, one_text, sized, shape}
use Rattle.midicsv.specs.Result.{Result, good, bad, next, test}
use Rattle.midicsv.specs.Names.{name_from}
use Rattle.midicsv.specs.ReadRecord.{counted, read_signed, read_column, read_bytes, read_text, read_tail, read_columns, with_values, read_line}
use Rattle.midicsv.proofs.ResultLaws.{test_good}
use Rattle.midicsv_scan.specs.FieldAt.{Counted, FieldIs}
use Rattle.midicsv_scan.specs.declared.FieldAt.{FieldAt}
use Rattle.std.specs.Prelude.{Some, None}
use Rattle.midicsv_record.proofs.FieldInLaws.{field_there}
use Rattle.midicsv_record.specs.Name.{name_at, name_as}
use Rattle.midicsv_record.specs.declared.Name.{Name}
use Rattle.midicsv_record.specs.Table.{columns_at, tail_at}
use Rattle.midicsv_record.specs.Column.{field_in, later_in}
use Rattle.midicsv_record.specs.Line.{size_in, values_of, named_in}
use Rattle.midicsv_record.specs.InTurn.{Refused}
use Rattle.midicsv_record.proofs.LineLaws.{size_right, fields_count, third_named}

-- ---- a result whose refusal is 25

abbrev Only : {A : Type 0} → Result A → Type 0
Only (good a) = Unit {0}
Only (bad n) = 25 ≡ n

next_only : {A B : Type 0} (m : Result A) (f : A → Result B) → Only m → ((a : A) → Only (f a)) → Only (next m f)
unfolding next
next_only (good a) f h k = k a
next_only (bad n) f h k = h

test_only : {A : Type 0} (t : Bool) (m : Result A) → Only m → Only (test t 25 m)
unfolding test
test_only true m h = h
test_only false m h = refl

pick_only : {A : Type 0} (t : Bool) (x y : Result A) → Only x → Only y → Only (pick t x y)
unfolding pick
pick_only true x y f g = f
pick_only false x y f g = g

refused_only : {A : Type 0} (m : Result A) → Only m → Refused m → bad 25 ≡ m
unfolding Refused
refused_only (good a) h r = absurd r
refused_only (bad n) h r = ap bad h

-- ---- fields beside their columns

signed_only : (most least all : ℕ) (f : Field) → Only (read_signed most least all f)
unfolding read_signed
signed_only most least all (num n) = test_only _ _ tt
signed_only most least all (minus n) = test_only _ _ tt
signed_only most least all (name s) = refl
signed_only most least all (quoted d) = refl

column_only : (c : Column) (f : Field) → Only (read_column c f)
unfolding read_column
column_only (range lo hi) (num n) = test_only _ _ tt
column_only (range lo hi) (minus n) = refl
column_only (range lo hi) (name s) = refl
column_only (range lo hi) (quoted d) = refl
column_only key f = signed_only _ _ _ f
column_only mode (num n) = refl
column_only mode (minus n) = refl
column_only mode (name s) = refl
column_only mode (quoted d) = pick_only _ _ _ tt (pick_only _ _ _ tt refl)
column_only free_type (num n) = test_only _ _ tt
column_only free_type (minus n) = refl
column_only free_type (name s) = refl
column_only free_type (quoted d) = refl
column_only division f = next_only _ _ (signed_only _ _ _ f) (λ n. test_only _ _ tt)

data_only : (fs : List Field) → Only (read_bytes fs)
unfolding read_bytes
data_only [] = tt
data_only (f ∷ fs) = next_only _ _ (column_only (range 0 255) f) (λ b. next_only _ _ (data_only fs) (λ d. tt))

text_only : (f : Field) → Only (read_text f)
unfolding read_text
text_only (num n) = refl
text_only (minus n) = refl
text_only (name s) = refl
text_only (quoted d) = tt

-- the fields without which a tail is missing
unfoldable least : Tail → ℕ
least none = 0
least one_text = 1
least sized = 1

tail_only : (t : Tail) (fs : List Field) → least t ≤ length fs → Only (read_tail t fs)
unfolding read_tail least
tail_only none fs h = tt
tail_only one_text [] h = absurd (omega arith)
tail_only one_text (f ∷ fs) h = text_only f
tail_only sized [] h = absurd (omega arith)
tail_only sized (f ∷ fs) h = data_only fs

columns_only : (cs : List Column) (t : Tail) (fs : List Field) → length cs + least t ≤ length fs → Only (read_columns cs t fs)
unfolding read_columns
columns_only [] t fs h = next_only _ _ (tail_only t fs (omega arith)) (λ d. tt)
columns_only (c ∷ cs) t [] h = absurd (omega arith)
columns_only (c ∷ cs) t (f ∷ fs) h = next_only _ _ (column_only c f) (λ n. next_only _ _ (columns_only cs t fs (omega arith)) (λ v. tt))

-- ---- a line

values_only : (n : RecordName) (a b : Field) (fs : List Field) → length (shape n).columns + least (shape n).tail ≤ length fs → Only (values_of n a b fs)
unfolding values_of with_values
values_only n a b fs h =
    next_only _ _ (column_only (range 0 65535) a) (λ track.
    next_only _ _ (column_only (range 0 4294967295) b) (λ time.
    next_only _ _ (columns_only (shape n).columns (shape n).tail fs h) (λ v. test_only _ _ tt)))

-- a count that fits leaves no field out
counted_least : (k : ℕ) (t : Tail) (fs : List Field) (m : Result ℕ) (len : ℕ) → counted k t fs m ≡ good len → k + least t ≤ length fs
unfolding counted least
counted_least k none fs m len e = let q = eqb-true (length fs) k (test_good _ 24 _ len e).0 in omega arith
counted_least k one_text fs m len e = let q = eqb-true (length fs) (k + 1) (test_good _ 24 _ len e).0 in omega arith
counted_least k sized fs m len e = let q = ltb-true k (length fs) (test_good _ 24 _ len e).0 in omega arith

pub only_range : (l : List ℕ) (n : Name) (len : ℕ) → good len ≡ size_in n (later_in l) → Refused (named_in l (name_as (Some n))) → bad 25 ≡ named_in l (name_as (Some n))
unfolding size_in
only_range l n len e r =
    let k = counted_least (length (columns_at n)) (tail_at n) (later_in l) _ len (sym e) in
    refused_only (named_in l (name_as (Some n))) (subst Only (size_right l n len e) (values_only (name_at n) _ _ (later_in l) k)) r

-- a line of three fields or more by the name that its third field gives, or 23
pub third_is : (l : List ℕ) (count : ℕ) → Counted l (Some count) → 3 ≤ count → (f : FieldAt) → FieldIs l 2 (Some f)
    → (m : Result RecordName) → m ≡ name_from (field_in l f) → named_in l m ≡ read_line l
third_is l count e h f t m z = sym (third_named l count (fields_count l count e h) f t ∙ rw (← z) refl)

-- it has a third field
pub third_there : {X : Type 0} (l : List ℕ) (count : ℕ) → Counted l (Some count) → 3 ≤ count → FieldIs l 2 None → X
third_there l count e h t = let a = fields_count l count e h in field_there l 2 a.fields (omega (arith, a.counts, a.three)) t
