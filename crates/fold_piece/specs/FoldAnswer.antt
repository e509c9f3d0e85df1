-- The answer of a fold, and what it leaves in the room and in the rows.
use Rattle.std.specs.Prelude.{ℕ, min, Bool, true, false, not, List, [], ◌∷◌, ◌++◌, length, drop, leb}
use Rattle.event.specs.Choice.{pick}
use Rattle.event.specs.Outcome.{Outcome, ok, refused, and_then, check}
use Rattle.event.specs.Event.{Kind, note_off, note_on, poly_aftertouch, control, program, channel_aftertouch, pitch_bend, system_exclusive, system_exclusive_packet, sequence_number, text, channel_prefix, midi_port, end_track, tempo, smpte_offset, time_signature, key_signature, sequencer_specific, unknown_meta}
use Rattle.smf.specs.Piece.{Piece}
use Rattle.smf.specs.Reader.{read_file}
use Rattle.smf.specs.Walk.{Placed}
use Rattle.smf.specs.PlacedFile.{placed_file}
use Rattle.smf.specs.Writing.{short_answer, short_leaves}
use Rattle.smf.specs.declared.Answer.{Answer}
use Rattle.fold_piece.specs.Fold.{folded_piece}

-- whether it is "Channel_prefix or MIDI_port"
unfoldable pub is_prefix_or_port : Kind → Bool
is_prefix_or_port (note_off c k v) = false
is_prefix_or_port (note_on c k v) = false
is_prefix_or_port (poly_aftertouch c k v) = false
is_prefix_or_port (control c k v) = false
is_prefix_or_port (program c p) = false
is_prefix_or_port (channel_aftertouch c v) = false
is_prefix_or_port (pitch_bend c v) = false
is_prefix_or_port (system_exclusive d) = false
is_prefix_or_port (system_exclusive_packet d) = false
is_prefix_or_port (sequence_number n) = false
is_prefix_or_port (text t d) = false
is_prefix_or_port (channel_prefix n) = true
is_prefix_or_port (midi_port n) = true
is_prefix_or_port end_track = false
is_prefix_or_port (tempo n) = false
is_prefix_or_port (smpte_offset h m s f u) = false
is_prefix_or_port (time_signature n d c b) = false
is_prefix_or_port (key_signature k m) = false
is_prefix_or_port (sequencer_specific d) = false
is_prefix_or_port (unknown_meta t d) = false

module _ {A : Type 0} where
  -- "33 at the first Channel_prefix or MIDI_port" of a track, else the outcome x
  unfoldable pub track_free : List Placed → Outcome A → Outcome A
  track_free [] x = x
  track_free (e ∷ es) x = check (not (is_prefix_or_port e.event.kind)) 33 e.start (track_free es x)

  -- of the tracks: the first in the file's order, track 1 whole, then track 2 ..
  unfoldable pub tracks_free : List (List Placed) → Outcome A → Outcome A
  tracks_free [] x = x
  tracks_free (t ∷ ts) x = track_free t (tracks_free ts x)

  -- only "in a piece of several tracks": of so many
  unfoldable pub several_free : ℕ → List (List Placed) → Outcome A → Outcome A
  several_free n ts x = pick (leb 2 n) (tracks_free ts x) x

-- "Up to 64 tracks"
abbrev pub most_tracks : ℕ
most_tracks = 64

-- the folded piece of a piece p that was read, with so many rows lent, or the refusal: "32 at 8 for format 2, 31 at 10 for over 64 tracks,
-- 37 at 10 for fewer rows than tracks, 33 at the first Channel_prefix or MIDI_port in a piece of several tracks"
unfoldable pub fold_tested : ℕ → List (List Placed) → Piece → List ℕ → Outcome Piece
fold_tested rows ts p r =
    check (leb p.format 1) 32 8
    (check (leb (length p.tracks) most_tracks) 31 10
    (check (leb (length p.tracks) rows) 37 10
    (several_free (length p.tracks) ts (ok (folded_piece p) r))))

-- of the file f: these come "after the reading ones"
unfoldable pub fold_outcome : ℕ → List ℕ → Outcome Piece
fold_outcome rows f = and_then (read_file f) (fold_tested rows (placed_file f))

-- "then 29, 14": the answer for a room of so many bytes. "Output is in manner 1"
abbrev pub fold_answer : ℕ → ℕ → List ℕ → Answer
fold_answer room rows f = short_answer room (fold_outcome rows f)

-- what the room holds afterwards
abbrev pub fold_leaves : ℕ → List ℕ → List ℕ → List ℕ
fold_leaves rows f old = short_leaves (fold_outcome rows f) old

-- ---- the rows, one for each track: "its place, time and status"

-- the last of the events of a track, which is its End_track
unfoldable pub last_placed : Placed → List Placed → Placed
last_placed e [] = e
last_placed e (x ∷ xs) = last_placed x xs

module _ {A : Type 0} where
  -- of each track what its End_track shows
  unfoldable pub ends_shown : (Placed → A) → List (List Placed) → List A
  ends_shown g [] = []
  ends_shown g ([] ∷ ts) = ends_shown g ts
  ends_shown g ((e ∷ es) ∷ ts) = g (last_placed e es) ∷ ends_shown g ts

  -- what lent rows, or the lent numbers of one kind, hold afterwards: "After a fold, even one answered 29 or 14, row n shows track n's
  -- End_track, .. and spare rows stay"; on every other refusal all stay
  unfoldable pub rows_leave : (Placed → A) → Outcome Piece → List (List Placed) → List A → List A
  rows_leave g (ok p r) ts old = ends_shown g ts ++ drop (length ts) old
  rows_leave g (refused n q) ts old = old

-- "its place"
abbrev pub place_shown : Placed → ℕ
place_shown e = e.start

-- "that Time"
abbrev pub time_shown : Placed → ℕ
time_shown e = e.event.time

-- "and status 0"
abbrev pub status_shown : Placed → ℕ
status_shown e = 0

-- "fewer rows than tracks": with three lists of numbers there are as many rows as the shortest has numbers
abbrev pub rows_lent : List ℕ → List ℕ → List ℕ → ℕ
rows_lent ps ts ss = min (length ps) (min (length ts) (length ss))
