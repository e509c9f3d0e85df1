-- Where a pass over the records stands, beside the state of the definition: its numbers, and the bytes that it has written.
use Rattle.std.specs.Prelude.{◌≡◌, ℕ, ◌+◌, ◌-◌, ◌<◌, ◌≤◌, ◌^◌, List, [], ◌∷◌, ◌++◌, length, take, Ok, Err, Result as CodeResult}
use Rattle.event.specs.Refusal.{number_of}
use Rattle.event.specs.declared.refusal.Refusal.{Refusal}
use Rattle.event.specs.Bytes.{big_endian}
use Rattle.event.specs.Event.{Event}
use Rattle.event.specs.Frame.{frame, after, no_status}
use Rattle.event.specs.Manner.{Manner}
use Rattle.event.specs.Outcome.{Outcome, ok, refused}
use Rattle.event_write.specs.Written.{Written, overwrite}
use Rattle.smf.specs.Piece.{Piece, Header}
use Rattle.smf.specs.Chunk.{track_tag}
use Rattle.smf.specs.Layout.{lay_events, lay_tracks, lay_header}
use Rattle.smf.specs.Manner.{spell_events, spell_tracks, file_of}
use Rattle.smf.specs.Step.{last_time}
use Rattle.midicsv.specs.Table.{header, start_track, end_of_file}
use Rattle.midicsv.specs.Record.{plain}
use Rattle.midicsv.specs.Result.{Result, good, bad}
use Rattle.midicsv.specs.ReadRecord.{read_line}
use Rattle.midicsv.specs.Order.{State, first, between, inside, finished, step_on, step}
use Rattle.midicsv.specs.PieceOfText.{tell_line, step_told, text_limit}
use Rattle.midicsv_record.specs.Row.{record_in}
use Rattle.midicsv_record.specs.declared.Row.{Row}
use Rattle.midicsv_read.specs.declared.Progress.{Progress}
use Rattle.midicsv_read.specs.declared.Phase.{Phase}
use Rattle.midicsv_read.specs.declared.Stopped.{Stopped}

-- ---- the bytes of the records so far

-- the status in force after the events
unfoldable pub last_force : ℕ → List Event → ℕ
last_force force [] = force
last_force force (e ∷ es) = last_force (after (frame e.kind)) es

-- the events of a track so far, in the manner
unfoldable pub events_bytes : Manner → List Event → List ℕ
events_bytes m es = lay_events 0 es (spell_events m 0 no_status es)

-- the tracks that are ended, in the manner
unfoldable pub tracks_bytes : Manner → List (List Event) → List ℕ
tracks_bytes m ts = lay_tracks ts (spell_tracks m ts)

-- the header and the tracks
unfoldable pub between_bytes : Manner → Header → List (List Event) → List ℕ
between_bytes m h ts = lay_header h.format h.count h.division [] (tracks_bytes m ts)

-- all before the length of the present track
unfoldable pub front_bytes : Manner → Header → List (List Event) → List ℕ
front_bytes m h ts = between_bytes m h ts ++ big_endian 4 track_tag

-- a zero stands for the length of the present track
unfoldable pub bytes_of : Manner → State → List ℕ
bytes_of m first = []
bytes_of m (between h ts) = between_bytes m h ts
bytes_of m (inside h ts es prev) = front_bytes m h ts ++ (big_endian 4 0 ++ events_bytes m es)
bytes_of m (finished p) = file_of m p

-- ---- the numbers of the pass in a state

-- between tracks: those of ts are ended, and the Header counts no fewer
pub record Between (st : Progress) (h : Header) (ts : List (List Event)) : Type 0 where
  pub phase : st.phase ≡ Phase.BetweenTracks
  pub count : st.count ≡ h.count
  pub tracks : st.tracks ≡ length ts
  pub most : length ts ≤ h.count
  pub few : h.count ≤ 65535

-- in a track, after its events es: their last Time, the status in force, the place of the length
pub record Inside (m : Manner) (st : Progress) (h : Header) (ts : List (List Event)) (es : List Event) (prev : ℕ) : Type 0 where
  pub phase : st.phase ≡ Phase.InTrack
  pub count : st.count ≡ h.count
  pub tracks : st.tracks ≡ length ts
  pub more : length ts < h.count
  pub few : h.count ≤ 65535
  pub time : st.time.0 ≡ prev
  pub last : prev ≡ last_time 0 es
  pub force : st.force ≡ last_force no_status es
  pub size : st.size ≡ length (front_bytes m h ts)

-- by the phase
abbrev pub Numbers : Manner → Progress → State → Type 0
Numbers m st first = st.phase ≡ Phase.BeforeHeader
Numbers m st (between h ts) = Between st h ts
Numbers m st (inside h ts es prev) = Inside m st h ts es prev
Numbers m st (finished p) = st.phase ≡ Phase.AfterEnd

-- the pass stands where the definition stands: its numbers, and the bytes that it has written over old
pub record At (m : Manner) (s : State) (old : List ℕ) (st : Progress) (out : List ℕ) : Type 0 where
  pub numbers : Numbers m st s
  pub few : st.tracks ≤ 65535
  pub written : Written old 0 (bytes_of m s) out st.at

-- ---- a step

-- what the code answers is what the definition does
abbrev pub Answers : Manner → Result State → List ℕ → CodeResult Progress Refusal → List ℕ → Type 0
Answers m x old (Ok st) out = (t : State) × (x ≡ good t) × At m t old st out
Answers m x old (Err r) out = x ≡ bad (number_of r)

-- the same wherever the pass stands; a refusal says nothing of the room
abbrev pub Follows : Manner → Progress → List ℕ → (State → Result State) → CodeResult Progress Refusal → List ℕ → Type 0
Follows m st out f r new = (s : State) (old : List ℕ) → At m s old st out → Answers m (f s) old r new

-- in either manner
abbrev pub FollowsEither : Progress → List ℕ → (State → Result State) → CodeResult Progress Refusal → List ℕ → Type 0
FollowsEither st out f r new = (m : Manner) → Follows m st out f r new

-- with nothing written
abbrev pub FollowsStill : Progress → (State → Result State) → CodeResult Progress Refusal → Type 0
FollowsStill st f r = (out : List ℕ) → FollowsEither st out f r out

-- what the arithmetic of a step needs
pub record Sized (st : Progress) : Type 0 where
  pub at : st.at < 2 ^ 30
  pub tracks : st.tracks ≤ 65535
  pub size : st.phase ≡ Phase.InTrack → st.size + 4 ≤ st.at

-- the place of the next byte is at most n
abbrev pub Near : ℕ → CodeResult Progress Refusal → Type 0
Near n (Ok st) = st.at ≤ n
Near n (Err r) = Unit {0}

-- ---- the records

-- what the definition does with a Header of the row's numbers
abbrev pub header_step : Row → State → Result State
header_step r = λ s. step_on s header r.track r.time (plain (take 3 r.columns))

-- with a Start_track
abbrev pub start_step : Row → State → Result State
start_step r = λ s. step_on s start_track r.track r.time (plain [])

-- with an End_of_file
abbrev pub end_step : Row → State → Result State
end_step r = λ s. step_on s end_of_file r.track r.time (plain [])

-- with the record of a row of the line l
abbrev pub row_step : List ℕ → Row → State → Result State
row_step l r = λ s. step s (record_in l r)

-- with the line l, passed over or not
abbrev pub line_step : List ℕ → State → Result State
line_step l = λ s. step_told s (tell_line l)

-- the row was read from the line l
pub record RowOf (l : List ℕ) (r : Row) : Type 0 where
  pub reads : read_line l ≡ good (record_in l r)
  pub start : r.start ≤ length l
  pub len : r.len ≤ length l
  pub short : length l ≤ text_limit

-- an event of the Track t at the Time u may stand there, with the delta d
pub record InTrack (st : Progress) (t u d : ℕ) : Type 0 where
  pub phase : st.phase ≡ Phase.InTrack
  pub track : t ≡ st.tracks + 1
  pub later : st.time.0 ≤ u
  pub delta : d ≡ u - st.time.0
  pub near : d ≤ 268435455

-- ---- all lines

-- the length of the file of a piece, or the refusal with its line
unfoldable pub length_of : Manner → Outcome Piece → Outcome ℕ
length_of m (ok p r) = ok (length (file_of m p)) []
length_of m (refused n line) = refused n line

-- the same of the answer
unfoldable pub passed_as : CodeResult ℕ Stopped → Outcome ℕ
passed_as (Ok n) = ok n []
passed_as (Err s) = refused (number_of s.refusal) s.line

-- a refusal says nothing of the room
unfoldable pub Leaves : Manner → Outcome Piece → List ℕ → List ℕ → Type 0
Leaves m (ok p r) old new = new ≡ overwrite old 0 (file_of m p)
Leaves m (refused n line) old new = Unit {0}
