-- The fields of a row are counted and read back.
use mathlib.Core.Path.{◌≡◌, refl, sym, ap, ap₂, ◌∙◌}
use Prim.Native.Nat.{ℕ, zero, suc, ◌+◌, ◌-◌, ◌<◌, ◌≤◌}
use mathlib.Core.Bool.{true, ◌&&◌}
use mathlib.Core.List.{List, [], ◌∷◌}
use mathlib.Core.Logic.{inl, inr}
use native.Mathlib.Omega.{arith}
use lib.ListN.{length, get_or}
use lib.Dec.{ltb}
use borrow.Author.Tests.{le-leb, lt-ltb, le-ltb, eq-eqb}
use Rattle.event.specs.Choice.{pick}
use Rattle.event.specs.Bytes.{Bytes}
use Rattle.event.specs.Meta.{MetaKind, kind_of, unknown_kind}
use Rattle.event.proofs.ChoiceLaws.{pick_true, pick_false, by_test}
use Rattle.smf.specs.Division.{division_ok}
use Rattle.smf.proofs.DivisionLaws.{EitherKind, division_kinds, division_small}
use Rattle.midicsv.specs.Field.{num, minus}
use Rattle.midicsv.specs.Table.{Column, range, key, mode, free_type, division, Tail, none, one_text, sized}
use Rattle.midicsv.specs.Record.{signed_field, column_field, data_fields, tail_fields, fields_of}
use Rattle.midicsv.specs.Result.{Result, good}
use Rattle.midicsv.specs.ReadRecord.{size_of, counted, same_bytes, is_free, read_signed, read_column, read_bytes, read_text, read_tail, read_columns}
use Rattle.midicsv.proofs.RowLaws.{InColumn, InColumns, InTail}
use Rattle.midicsv.proofs.ResultLaws.{next_eq, test_eq}
use Rattle.midicsv.proofs.FieldReadLaws.{Good, AllGood}

-- ---- a column

pub mode_read : (m : ℕ) → m ≤ 1 → read_column mode (column_field mode m) ≡ good m
unfolding read_column column_field pick same_bytes
mode_read zero h = refl
mode_read (suc zero) h = refl
mode_read (suc (suc m)) h = absurd (omega arith)

pub mode_good : (m : ℕ) → m ≤ 1 → Good (column_field mode m)
unfolding Good column_field pick
mode_good zero h = omega arith
mode_good (suc zero) h = omega arith
mode_good (suc (suc m)) h = absurd (omega arith)

pub number_in : (lo hi n : ℕ) → lo ≤ n → n ≤ hi → read_column (range lo hi) (num n) ≡ good n
unfolding read_column
number_in lo hi n h k = test_eq 25 _ (ap₂ ◌&&◌ (le-leb lo n h) (le-leb n hi k))

pub free_is : (k : MetaKind) → k ≡ unknown_kind → is_free k ≡ true
unfolding is_free
free_is k e = ap is_free e

-- a number and its field, by its sign
signed_plus : (most least all first n : ℕ) → n < first → n ≤ most → read_signed most least all (signed_field first all n) ≡ good n
unfolding read_signed signed_field
signed_plus most least all first n h k = rw (pick_true (num n) (minus (all - n)) (lt-ltb n first h)) (test_eq 25 _ (le-leb n most k))

signed_minus : (most least all first n : ℕ) → first ≤ n → n ≤ all → all - n ≤ least → read_signed most least all (signed_field first all n) ≡ good n
unfolding read_signed signed_field
signed_minus most least all first n h k g =
    let back : all - (all - n) ≡ n = omega arith in
    rw (pick_false (num n) (minus (all - n)) (le-ltb n first h)) (test_eq 25 _ (le-leb (all - n) least g) ∙ ap good back)

signed_good : (first all n : ℕ) → n < all → all ≤ 4294967295 → Good (signed_field first all n)
unfolding signed_field Good pick
signed_good first all n h k = by_test (ltb n first) (λ t. rw t (omega arith)) (λ t. rw t (omega arith))

division_read : (n : ℕ) → division_ok n ≡ true → EitherKind n → read_column division (column_field division n) ≡ good n
unfolding read_column column_field
division_read n h (inl k) = next_eq _ (signed_plus 32767 32768 65536 32768 n (omega arith) k.1) ∙ test_eq 25 _ h
division_read n h (inr k) = next_eq _ (signed_minus 32767 32768 65536 32768 n (omega arith) (omega arith) (omega arith)) ∙ test_eq 25 _ h

pub column_read : (c : Column) (n : ℕ) → InColumn c n → read_column c (column_field c n) ≡ good n
unfolding InColumn read_column column_field
column_read (range lo hi) n h = number_in lo hi n h.0 h.1
column_read key b (inl h) = signed_plus 7 7 256 8 b h (omega arith)
column_read key b (inr h) = signed_minus 7 7 256 8 b (omega arith) (omega arith) (omega arith)
column_read mode m h = mode_read m h
column_read free_type t h = test_eq 25 _ (ap₂ ◌&&◌ (le-leb t 127 h.0) (free_is (kind_of t) h.1))
column_read division n h = division_read n h (division_kinds n h)

pub column_good : (c : Column) (n : ℕ) → InColumn c n → Good (column_field c n)
unfolding InColumn column_field Good
column_good (range lo hi) n h = h.2
column_good key b (inl h) = signed_good 8 256 b (omega arith) (omega arith)
column_good key b (inr h) = signed_good 8 256 b (omega arith) (omega arith)
column_good mode m h = mode_good m h
column_good free_type t h = omega arith
column_good division n h = signed_good 32768 65536 n (division_small n h) (omega arith)

-- ---- the tail

pub data_read : (d : List ℕ) → Bytes d → read_bytes (data_fields d) ≡ good d
unfolding read_bytes data_fields
data_read [] h = refl
data_read (b ∷ d) h = next_eq _ (number_in 0 255 b (omega arith) (omega (arith, h.0))) ∙ next_eq _ (data_read d h.1)

pub data_good : (d : List ℕ) → Bytes d → AllGood (data_fields d)
unfolding data_fields Good
data_good [] h = tt
data_good (b ∷ d) h = (omega arith, data_good d h.1)

pub tail_read : (t : Tail) (d : List ℕ) → InTail t d → read_tail t (tail_fields t d) ≡ good d
unfolding InTail read_tail tail_fields read_text
tail_read none d h = ap good (sym h)
tail_read one_text d h = refl
tail_read sized d h = data_read d h

pub tail_good : (t : Tail) (d : List ℕ) → InTail t d → length d ≤ 4294967295 → AllGood (tail_fields t d)
unfolding InTail tail_fields Good
tail_good none d h s = tt
tail_good one_text d h s = (h, tt)
tail_good sized d h s = (s, data_good d h)

-- ---- a row

pub columns_read : (cs : List Column) (t : Tail) (ns d : List ℕ) → InColumns cs ns → InTail t d → read_columns cs t (fields_of cs t ns d) ≡ good (record { columns = ns; body = d })
unfolding InColumns read_columns fields_of
columns_read [] t [] d h g = next_eq _ (tail_read t d g)
columns_read [] t (n ∷ ns) d h g = absurd h
columns_read (c ∷ cs) t [] d h g = absurd h
columns_read (c ∷ cs) t (n ∷ ns) d h g = next_eq _ (column_read c n h.0) ∙ next_eq _ (columns_read cs t ns d h.1 g)

pub columns_good : (cs : List Column) (t : Tail) (ns d : List ℕ) → InColumns cs ns → InTail t d → length d ≤ 4294967295 → AllGood (fields_of cs t ns d)
unfolding InColumns fields_of
columns_good [] t [] d h g s = tail_good t d g s
columns_good [] t (n ∷ ns) d h g s = absurd h
columns_good (c ∷ cs) t [] d h g s = absurd h
columns_good (c ∷ cs) t (n ∷ ns) d h g s = (column_good c n h.0, columns_good cs t ns d h.1 g s)

-- ---- the number of fields

pub data_fields_lem : (d : List ℕ) → length (data_fields d) ≡ length d
unfolding data_fields
data_fields_lem [] = refl
data_fields_lem (b ∷ d) = ap suc (data_fields_lem d)

pub row_fields_lem : (cs : List Column) (t : Tail) (ns d : List ℕ) → InColumns cs ns → length (fields_of cs t ns d) ≡ length cs + length (tail_fields t d)
unfolding InColumns fields_of
row_fields_lem [] t [] d h = omega arith
row_fields_lem [] t (n ∷ ns) d h = absurd h
row_fields_lem (c ∷ cs) t [] d h = absurd h
row_fields_lem (c ∷ cs) t (n ∷ ns) d h = let e = row_fields_lem cs t ns d h.1 in omega arith

pub length_field : (cs : List Column) (ns d : List ℕ) → InColumns cs ns → get_or (fields_of cs sized ns d) (length cs) (num 0) ≡ num (length d)
unfolding InColumns fields_of tail_fields
length_field [] [] d h = refl
length_field [] (n ∷ ns) d h = absurd h
length_field (c ∷ cs) [] d h = absurd h
length_field (c ∷ cs) (n ∷ ns) d h = length_field cs ns d h.1

pub length_known : (cs : List Column) (ns d : List ℕ) → InColumns cs ns → size_of (get_or (fields_of cs sized ns d) (length cs) (num 0)) ≡ good (length d)
unfolding size_of
length_known cs ns d h = ap size_of (length_field cs ns d h)

pub counted_right : {A : Type 0} (cs : List Column) (t : Tail) (ns d : List ℕ) (m : Result A) → InColumns cs ns → counted (length cs) t (fields_of cs t ns d) m ≡ m
unfolding counted tail_fields
counted_right cs none ns d m h = let e = row_fields_lem cs none ns d h in test_eq 24 m (eq-eqb _ (length cs) (omega arith))
counted_right cs one_text ns d m h = let e = row_fields_lem cs one_text ns d h in test_eq 24 m (eq-eqb _ (length cs + 1) (omega arith))
counted_right cs sized ns d m h =
    let e = row_fields_lem cs sized ns d h in
    let k = data_fields_lem d in
    test_eq 24 _ (lt-ltb (length cs) _ (omega arith))
    ∙ next_eq _ (length_known cs ns d h)
    ∙ test_eq 24 m (eq-eqb _ (length cs + 1 + length d) (omega arith))
