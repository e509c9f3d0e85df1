-- The text of a piece, and its sheet form.
use Rattle.std.specs.Prelude.{ℕ, suc, ◌*◌, List, [], ◌∷◌, ◌++◌, length}
use Rattle.event.specs.Event.{Event}
use Rattle.smf.specs.Division.{bits}
use Rattle.smf.specs.Piece.{Piece}
use Rattle.midicsv.specs.Table.{RecordName, header, start_track, end_of_file, event}
use Rattle.midicsv.specs.Show.{Form, as_text, as_sheet}
use Rattle.midicsv.specs.Record.{Record, record_line, name_of, plain, values_of}

-- Start_track and End_of_file: at Time 0, without further fields
abbrev pub mark : RecordName → ℕ → Record
mark n track = record { track = track; time = 0; name = n; values = plain [] }

-- an event of the track so numbered; End_track too: "`n, T, End_track`"
unfoldable pub event_record : ℕ → Event → Record
event_record track e = record { track = track; time = e.time; name = event (name_of e.kind); values = values_of e.kind }

-- "its events, `n, T, End_track`": the last event is End_track
unfoldable pub event_records : ℕ → List Event → List Record
event_records track [] = []
event_records track (e ∷ es) = event_record track e ∷ event_records track es

-- "for each track n from 1, `n, 0, Start_track`, its events"
unfoldable pub track_records : ℕ → List (List Event) → List Record
track_records n [] = []
track_records n (t ∷ ts) = mark start_track n ∷ (event_records n t ++ track_records (suc n) ts)

-- "`0, 0, Header, format, tracks, division`", the division as its 16 bits
unfoldable pub header_record : Piece → Record
header_record p =
    record { track = 0; time = 0; name = header; values = plain (p.format ∷ length p.tracks ∷ bits p.division ∷ []) }

-- "First .. Header; for each track ..; last `0, 0, End_of_file`"
unfoldable pub piece_records : Piece → List Record
piece_records p = header_record p ∷ (track_records 1 p.tracks ++ (mark end_of_file 0 ∷ []))

-- "each record ended by LF"
unfoldable pub records_text : Form → List Record → List ℕ
records_text w [] = []
records_text w (r ∷ rs) = record_line w r ++ (10 ∷ records_text w rs)

-- the piece in one of its forms
unfoldable pub written_as : Form → Piece → List ℕ
written_as w p = records_text w (piece_records p)

-- THE text of a piece
abbrev pub text_of : Piece → List ℕ
text_of p = written_as as_text p

-- THE sheet form of a piece (docs/SPREADSHEET.md)
abbrev pub sheet_of : Piece → List ℕ
sheet_of p = written_as as_sheet p

-- "The text of an accepted file of n bytes has at most 25·n bytes", and its sheet at most 23·n
unfoldable pub most : Form → ℕ → ℕ
most as_text n = 25 * n
most as_sheet n = 23 * n
