-- Columns that are read from a number.
use mathlib.Core.Path.{◌≡◌, refl, sym, ◌∙◌}
use Prim.Native.Nat.{ℕ}
use mathlib.Core.Bool.{Bool, true, false, ◌&&◌}
use lib.Dec.{leb}
use Rattle.std.specs.Bool.{then_some}
use Rattle.event.specs.Meta.{kind_of}
use Rattle.smf.specs.Division.{division_ok}
use Rattle.midicsv.specs.Field.{Field, num, minus, name, quoted}
use Rattle.midicsv.specs.Table.{Column, range, free_type, division}
use Rattle.midicsv.specs.Result.{Result, good, bad, next, test}
use Rattle.midicsv.specs.ReadRecord.{size_of, is_free, read_signed, read_column}
use Rattle.midicsv_record.specs.Column.{value_as}

-- ---- a number that is then tested

-- the number where the test holds
pub some_tested : (b : Bool) (n : ℕ) → value_as (then_some b n) ≡ test b 25 (good n)
unfolding value_as test
some_tested true n = refl
some_tested false n = refl

-- what the code may conclude of a column that is read so: of a number that m gives, with a test of it by t
pub record Tested (c : Column) (f : Field) (m : Result ℕ) (t : ℕ → Bool) : Type 0 where
  pub missed : bad 25 ≡ m → bad 25 ≡ read_column c f
  pub taken : (v : ℕ) (b : Bool) → good v ≡ m → b ≡ t v → value_as (then_some b v) ≡ read_column c f

tested : (c : Column) (f : Field) (m : Result ℕ) (t : ℕ → Bool) → read_column c f ≡ next m (λ n. test (t n) 25 (good n)) → Tested c f m t
unfolding next
tested c f m t e = record {
  missed = λ h. sym (e ∙ rw (← h) refl);
  taken = λ v b h z. some_tested b v ∙ sym (e ∙ rw (← h, ← z) refl);
}

-- ---- a range

range_number : (lo hi : ℕ) (f : Field) → read_column (range lo hi) f ≡ next (size_of f) (λ n. test (leb lo n && leb n hi) 25 (good n))
unfolding read_column size_of next
range_number lo hi (num n) = refl
range_number lo hi (minus n) = refl
range_number lo hi (name s) = refl
range_number lo hi (quoted d) = refl

pub range_tested : (lo hi : ℕ) (f : Field) → Tested (range lo hi) f (size_of f) (λ n. leb lo n && leb n hi)
range_tested lo hi f = tested (range lo hi) f (size_of f) (λ n. leb lo n && leb n hi) (range_number lo hi f)

-- ---- a meta type

free_number : (f : Field) → read_column free_type f ≡ next (size_of f) (λ n. test (leb n 127 && is_free (kind_of n)) 25 (good n))
unfolding read_column size_of next
free_number (num n) = refl
free_number (minus n) = refl
free_number (name s) = refl
free_number (quoted d) = refl

pub free_tested : (f : Field) → Tested free_type f (size_of f) (λ n. leb n 127 && is_free (kind_of n))
free_tested f = tested free_type f (size_of f) (λ n. leb n 127 && is_free (kind_of n)) (free_number f)

-- ---- the bits of a division

division_number : (f : Field) → read_column division f ≡ next (read_signed 32767 32768 65536 f) (λ n. test (division_ok n) 25 (good n))
unfolding read_column
division_number f = refl

pub division_tested : (f : Field) → Tested division f (read_signed 32767 32768 65536 f) division_ok
division_tested f = tested division f (read_signed 32767 32768 65536 f) division_ok (division_number f)
