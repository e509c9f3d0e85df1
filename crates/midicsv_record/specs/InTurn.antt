-- The record of a line read in turn: each field from the comma before it on. Here a fault is a fault, whichever it is, and
-- refused 22 0 stands for all: its number is asked of the whole line afterwards.
use Rattle.std.specs.Prelude.{◌≡◌, ℕ, zero, suc, ◌≤◌, Bool, true, false, List, [], ◌∷◌, length, take, drop, Option, Some, None}
use Rattle.event.specs.Outcome.{Outcome, ok, refused, and_then}
use Rattle.midicsv.specs.Field.{Field}
use Rattle.midicsv.specs.Table.{Column, range, Tail, none, one_text, sized, RecordName, shape}
use Rattle.midicsv.specs.Record.{Record, Values}
use Rattle.midicsv.specs.Names.{name_from}
use Rattle.midicsv.specs.ReadField.{read_field}
use Rattle.midicsv.specs.Result.{Result, good, bad}
use Rattle.midicsv.specs.ReadRecord.{size_of, read_column, read_text, with_values}
use Rattle.midicsv_record.specs.Row.{body_in, record_in}
use Rattle.midicsv_record.specs.declared.Cell.{Cell}
use Rattle.midicsv_record.specs.declared.Columns.{Columns}
use Rattle.midicsv_record.specs.declared.BodyPlace.{BodyPlace}
use Rattle.midicsv_record.specs.declared.Row.{Row}

-- ---- the parts of a line, of what stands from a comma on

-- the field after the comma
unfoldable pub field_after : List ℕ → Outcome Field
field_after [] = refused 22 0
field_after (c ∷ l) = read_field l

-- a value where the field fits, and what follows the field
unfoldable pub fitting : {A : Type 0} → Result A → List ℕ → Outcome A
fitting (good a) r = ok a r
fitting (bad n) r = refused 22 0

-- the number of a column
unfoldable pub column_after : Column → List ℕ → Outcome ℕ
column_after c r = and_then (field_after r) (λ f q. fitting (read_column c f) q)

-- the numbers of the columns
unfoldable pub columns_after : List Column → List ℕ → Outcome (List ℕ)
columns_after [] r = ok [] r
columns_after (c ∷ cs) r = and_then (column_after c r) (λ n q. and_then (columns_after cs q) (λ ns t. ok (n ∷ ns) t))

-- "Data..", n of them
unfoldable pub data_after : ℕ → List ℕ → Outcome (List ℕ)
data_after zero r = ok [] r
data_after (suc n) r = and_then (column_after (range 0 255) r) (λ b q. and_then (data_after n q) (λ d t. ok (b ∷ d) t))

-- nothing, a Text, or "Length, Data.."
unfoldable pub tail_after : Tail → List ℕ → Outcome (List ℕ)
tail_after none r = ok [] r
tail_after one_text r = and_then (field_after r) (λ f q. fitting (read_text f) q)
tail_after sized r = and_then (field_after r) (λ f q. and_then (fitting (size_of f) q) (λ n t. data_after n t))

-- no field is left
unfoldable pub at_end : {A : Type 0} → A → List ℕ → Outcome A
at_end a [] = ok a []
at_end a (c ∷ r) = refused 22 0

-- the tail, which ends the line
unfoldable pub last_after : Tail → List ℕ → Outcome (List ℕ)
last_after t r = and_then (tail_after t r) (λ d q. at_end d q)

-- the fields after the name, which end the line
unfoldable pub values_after : RecordName → List ℕ → Outcome Values
values_after n r =
    and_then (columns_after (shape n).columns r) (λ ns q.
    and_then (last_after (shape n).tail q) (λ d t. ok (record { columns = ns; body = d }) t))

-- the record of a listed name, with its Track and Time
unfoldable pub named_after : ℕ → ℕ → RecordName → List ℕ → Outcome Record
named_after track time n r = and_then (values_after n r) (λ v t. fitting (with_values track time n v) t)

-- the same from the comma before the name on
unfoldable pub record_after : ℕ → ℕ → List ℕ → Outcome Record
record_after track time r =
    and_then (field_after r) (λ f q.
    and_then (fitting (name_from f) q) (λ n t. named_after track time n t))

-- the whole line, from the comma that might stand before it
unfoldable pub record_in_turn : List ℕ → Outcome Record
record_in_turn l =
    and_then (column_after (range 0 65535) (44 ∷ l)) (λ track q.
    and_then (column_after (range 0 4294967295) q) (λ time r. record_after track time r))

-- ---- how it stands beside the record of a line

-- a line that is refused, whatever its number
unfoldable pub Refused : {A : Type 0} → Result A → Type 0
Refused (good a) = ⊥
Refused (bad n) = Unit {0}

-- the same record, or both have a fault
unfoldable pub Agrees : Outcome Record → Result Record → Type 0
Agrees (ok x r) m = m ≡ good x
Agrees (refused n p) m = Refused m

-- ---- what the answers of the code say, of a line l

-- a number and what follows its field
unfoldable pub cell_as : List ℕ → Option Cell → Outcome ℕ
cell_as l (Some c) = ok c.value (drop c.next l)
cell_as l None = refused 22 0

-- as many numbers as there are columns, and what follows their fields
unfoldable pub columns_as : List Column → List ℕ → Option Columns → Outcome (List ℕ)
columns_as cs l (Some c) = ok (take (length cs) c.values) (drop c.next l)
columns_as cs l None = refused 22 0

-- the Text or the Data by their place
unfoldable pub tail_step_as : Tail → List ℕ → Option BodyPlace → Outcome (List ℕ)
tail_step_as t l (Some b) = ok (body_in t l b.start b.len) []
tail_step_as t l None = refused 22 0

-- which lies in the line
unfoldable pub TailInside : List ℕ → Option BodyPlace → Type 0
TailInside l (Some b) = (b.start ≤ length l) × (b.len ≤ length l)
TailInside l None = Unit {0}

-- n Data of which the last ends the line, or a fault
unfoldable pub DataEnd : ℕ → List ℕ → Bool → Type 0
DataEnd n r true = (d : List ℕ) × (data_after n r ≡ ok d [])
DataEnd n r false = and_then (data_after n r) (λ d q. at_end d q) ≡ refused 22 0

-- the record of a row
unfoldable pub row_as : List ℕ → Option Row → Outcome Record
row_as l (Some row) = ok (record_in l row) []
row_as l None = refused 22 0

-- what has a place stands in the line
unfoldable pub RowInside : List ℕ → Option Row → Type 0
RowInside l (Some row) = (row.start ≤ length l) × (row.len ≤ length l)
RowInside l None = Unit {0}
