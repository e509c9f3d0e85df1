-- The tests of a line from its count of fields on, one after the other as the code makes them.
use Rattle.std.specs.Prelude.{◌≡◌, ℕ, ◌≤◌, List, [], length, get_or, Ok, Err, Result as CodeResult}
use Rattle.event.specs.Refusal.{number_of}
use Rattle.event.specs.declared.refusal.Refusal.{Refusal}
use Rattle.event.specs.Outcome.{ok}
use Rattle.midicsv.specs.Field.{Field, num}
use Rattle.midicsv.specs.Table.{RecordName, range, shape}
use Rattle.midicsv.specs.Record.{Record}
use Rattle.midicsv.specs.ReadField.{all_fields}
use Rattle.midicsv.specs.Result.{Result, good, bad, next}
use Rattle.midicsv.specs.ReadRecord.{counted, read_column, read_columns, with_values}
use Rattle.midicsv_record.specs.declared.Name.{Name}
use Rattle.midicsv_record.specs.Table.{columns_at, tail_at}
use Rattle.midicsv_record.specs.Column.{fields_in, later_in}

-- a line of so many good fields, three or more
pub record Fields (l : List ℕ) (count : ℕ) : Type 0 where
  pub fields : all_fields l ≡ ok (fields_in l) []
  pub counts : length (fields_in l) ≡ count
  pub three : 3 ≤ count

-- the fields after the name counted: as many as the name n and its Length want, or 24 or 25
unfoldable pub size_in : Name → List Field → Result ℕ
size_in n fs = counted (length (columns_at n)) (tail_at n) fs (good 0)

-- the same of the answer
unfoldable pub size_as : CodeResult Unit Refusal → Result ℕ
size_as (Ok u) = good 0
size_as (Err r) = bad (number_of r)

-- the record n of the fields a of Track, b of Time and fs after the name
unfoldable pub values_of : RecordName → Field → Field → List Field → Result Record
values_of n a b fs =
    next (read_column (range 0 65535) a) (λ track.
    next (read_column (range 0 4294967295) b) (λ time.
    next (read_columns (shape n).columns (shape n).tail fs) (with_values track time n)))

-- that of a line
abbrev pub row_in : List ℕ → RecordName → Result Record
row_in l n = values_of n (get_or (fields_in l) 0 (num 0)) (get_or (fields_in l) 1 (num 0)) (later_in l)

-- that of a line whose name was so found
unfoldable pub named_in : List ℕ → Result RecordName → Result Record
named_in l m = next m (λ n. counted (length (shape n).columns) (shape n).tail (later_in l) (row_in l n))
