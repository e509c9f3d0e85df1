-- "The piece read from an accepted file: the format and division that the program reads in its header and, track by track, the
-- events that the event side answers, each read from where the one before ended, from the first byte after the track's length to
-- End_track, with kind, fields, data bytes and Time." By the very answers that the contracts of read_header, next_track and
-- read_event name.
use Rattle.std.specs.Prelude.{Result, Ok, Err, ℕ, zero, suc, ◌-◌, Bool, true, false, List, [], ◌∷◌, length, take, drop}
use Rattle.event.specs.Event.{Event}
use Rattle.event.specs.Frame.{no_status}
use Rattle.event.specs.Reader.{read_event}
use Rattle.event.specs.Padding.{event_padding}
use Rattle.event.specs.Step.{event_step, end_of, kind_from}
use Rattle.event.specs.declared.EventRead.{EventRead}
use Rattle.smf.specs.Division.{pulses}
use Rattle.smf.specs.Piece.{Piece}
use Rattle.smf.specs.Reader.{read_chunk, read_header}
use Rattle.smf.specs.Step.{division_from, header_step, chunk_step}
use Rattle.smf.specs.declared.HeaderRead.{HeaderRead}
use Rattle.smf.specs.declared.Chunk.{Chunk}

-- nothing after End_track
unfoldable pub until_end : Bool → List Event → List Event
until_end true es = []
until_end false es = es

-- the events of a track's body from the answer of the event side on; n is more than there are
unfoldable pub events_read : ℕ → List ℕ → Result EventRead ℕ → List Event
events_read zero body (Ok e) = []
events_read zero body (Err number) = []
events_read (suc n) body (Ok e) =
    record { time = e.next.time.0; kind = kind_from body e.kind }
    ∷ until_end (end_of e.kind) (events_read n body (event_step (length body) (event_padding (drop e.next.place body)) (read_event e.next.time.0 e.next.status (drop e.next.place body))))
events_read (suc n) body (Err number) = []

-- "from the first byte after the track's length to End_track", with no status in force at first
unfoldable pub track_read : List ℕ → List Event
track_read body = events_read (suc (length body)) body (event_step (length body) (event_padding body) (read_event 0 no_status body))

-- so many tracks of the file f from the answer about the next chunk on
unfoldable pub tracks_read : ℕ → List ℕ → Result Chunk (ℕ × ℕ) → List (List Event)
tracks_read zero f (Ok c) = []
tracks_read zero f (Err refusal) = []
tracks_read (suc n) f (Ok c) =
    track_read (take (c.end - c.start) (drop c.start f)) ∷ tracks_read n f (chunk_step (length f) (read_chunk c.end (drop c.end f)))
tracks_read (suc n) f (Err refusal) = []

-- the file f from the answer about its header on
unfoldable pub piece_from : List ℕ → Result HeaderRead (ℕ × ℕ) → Piece
piece_from f (Ok h) =
    record {
      format = h.format;
      division = division_from h.division;
      tracks = tracks_read h.count f (chunk_step (length f) (read_chunk h.next (drop h.next f)));
    }
piece_from f (Err refusal) = record { format = 0; division = pulses 0; tracks = [] }

-- "The piece read from an accepted file"
unfoldable pub piece_read : List ℕ → Piece
piece_read f = piece_from f (header_step (length f) (read_header f))
