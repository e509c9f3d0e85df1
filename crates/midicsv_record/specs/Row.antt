-- What the answer about a line l says: the record, its Text or Data by their place in the line.
use Rattle.std.specs.Prelude.{ℕ, zero, suc, ◌≤◌, ◌%◌, List, [], ◌∷◌, length, take, drop, Ok, Err, Result as CodeResult}
use Rattle.event.specs.Refusal.{number_of}
use Rattle.event.specs.declared.refusal.Refusal.{Refusal}
use Rattle.event.specs.Outcome.{Outcome, ok, refused}
use Rattle.midicsv.specs.Field.{Field, num, minus, name, quoted}
use Rattle.midicsv.specs.Table.{Tail, none, one_text, sized, shape}
use Rattle.midicsv.specs.Record.{Record}
use Rattle.midicsv.specs.ReadField.{plain, read_field}
use Rattle.midicsv.specs.Result.{Result, good, bad}
use Rattle.midicsv_scan.specs.Unquoted.{unquoted}
use Rattle.midicsv_record.specs.Name.{name_at}
use Rattle.midicsv_record.specs.declared.Row.{Row}

-- a data byte, of a field that is one
unfoldable pub byte_in : Outcome Field → ℕ
byte_in (ok (num n) r) = n % 256
byte_in (ok (minus n) r) = 0
byte_in (ok (name s) r) = 0
byte_in (ok (quoted d) r) = 0
byte_in (refused n p) = 0

-- what stands after a field's comma
unfoldable pub after_field : Outcome Field → List ℕ
after_field (ok f []) = []
after_field (ok f (c ∷ r)) = r
after_field (refused n p) = []

-- the data bytes of n fields
unfoldable pub data_from : ℕ → List ℕ → List ℕ
data_from zero l = []
data_from (suc n) l = byte_in (read_field l) ∷ data_from n (after_field (read_field l))

-- the Text after the opening quote at start - 1, or the len Data from start on
unfoldable pub body_in : Tail → List ℕ → ℕ → ℕ → List ℕ
body_in none l start len = []
body_in one_text l start len = unquoted (drop start l) plain
body_in sized l start len = data_from len (drop start l)

-- of the five numbers as many as the name has columns
abbrev pub columns_in : Row → List ℕ
columns_in r = take (length (shape (name_at r.name)).columns) r.columns

-- the record that a row of the line l stands for
abbrev pub record_in : List ℕ → Row → Record
record_in l r =
    record {
      track = r.track;
      time = r.time;
      name = name_at r.name;
      values = record { columns = columns_in r; body = body_in (shape (name_at r.name)).tail l r.start r.len };
    }

-- the record, or the number of the refusal
unfoldable pub line_as : List ℕ → CodeResult Row Refusal → Result Record
line_as l (Ok r) = good (record_in l r)
line_as l (Err e) = bad (number_of e)

-- what has a place stands in the line
unfoldable pub Placed : List ℕ → CodeResult Row Refusal → Type 0
Placed l (Ok r) = (r.start ≤ length l) × (r.len ≤ length l)
Placed l (Err e) = Unit {0}
