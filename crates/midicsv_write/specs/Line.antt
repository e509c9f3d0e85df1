-- What the writers of a record's parts write, of an event as the event side answers it: kind and fields, and the track's body with its data.
use Rattle.std.specs.Prelude.{List, [], ◌∷◌, ℕ, length}
use Rattle.event.specs.Event.{Event, Kind}
use Rattle.event.specs.Step.{kind_from}
use Rattle.event.specs.declared.Time.{Time}
use Rattle.event.specs.declared.EventKind.{EventKind}
use Rattle.midicsv.specs.Field.{Field}
use Rattle.midicsv.specs.Show.{Form}
use Rattle.midicsv.specs.Table.{header, none, event_shape}
use Rattle.midicsv.specs.Record.{Record, tail_fields, fields_of, name_of, plain, values_of}
use Rattle.midicsv.specs.Text.{records_text}

-- the event of an answer of the event side
abbrev pub event_from : Time → List ℕ → EventKind → Event
event_from t body k = record { time = t.0; kind = kind_from body k }

-- the fields of its columns
abbrev pub column_fields : Kind → List Field
column_fields k = fields_of (event_shape (name_of k)).columns none (values_of k).columns []

-- the fields of its Text, or of its Length and Data
abbrev pub body_fields : Kind → List Field
body_fields k = tail_fields (event_shape (name_of k)).tail (values_of k).body

-- how many columns the record of an event has
abbrev pub column_count : EventKind → ℕ
column_count k = length (column_fields (kind_from [] k))

-- a record's line with its LF
abbrev pub line : Form → Record → List ℕ
line w r = records_text w (r ∷ [])

-- "`0, 0, Header, format, tracks, division`", the division as its 16 bits
abbrev pub header_for : ℕ → ℕ → ℕ → Record
header_for format count bits = record { track = 0; time = 0; name = header; values = plain (format ∷ count ∷ bits ∷ []) }
