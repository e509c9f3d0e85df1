-- What the code's enums say, by document 01's numbers and values: the answer of each reader on the rest of a file of n bytes,
-- with places in the file.
use Rattle.std.specs.Prelude.{◌≡◌, Result, Ok, Err, ℕ, ◌+◌, ◌-◌, List, [], ◌∷◌, length}
use Rattle.event.specs.Event.{Event}
use Rattle.event.specs.Outcome.{Outcome, ok, refused}
use Rattle.event.specs.Refusal.{number_of}
use Rattle.smf.specs.Division.{Division, pulses, frames}
use Rattle.smf.specs.Piece.{Header}
use Rattle.smf.specs.Reader.{read_header}
use Rattle.smf.specs.declared.Division
use Rattle.smf.specs.declared.Division.TheVariants.{Pulses, Frames}
use Rattle.smf.specs.declared.Refused.{Refused}
use Rattle.smf.specs.declared.HeaderRead.{HeaderRead}
use Rattle.smf.specs.declared.Chunk.{Chunk}
use Rattle.smf.specs.declared.Walked.{Walked}
use Rattle.smf.specs.declared.TrackRead.{TrackRead}

module _ {A : Type 0} where
  -- an answer with the refusal by its number and place
  abbrev pub told : Result A Refused → Result A (ℕ × ℕ)
  told (Ok a) = Ok a
  told (Err r) = Err (number_of r.why, r.place)

-- a division, and back
unfoldable pub division_step : Division → Rattle.smf.specs.declared.Division.Division
division_step (pulses n) = Pulses n
division_step (frames r t) = Frames r t

unfoldable pub division_from : Rattle.smf.specs.declared.Division.Division → Division
division_from (Pulses n) = pulses n
division_from (Frames r t) = frames r t

-- a header: its fields, and the place after it
unfoldable pub header_step : ℕ → Outcome Header → Result HeaderRead (ℕ × ℕ)
header_step n (ok h r) = Ok (record { format = h.format; count = h.count; division = division_step h.division; next = n - length r })
header_step n (refused k p) = Err (k, p)

-- a track's chunk: the place of its first event, and the place after it
unfoldable pub chunk_step : ℕ → Outcome (List ℕ) → Result Chunk (ℕ × ℕ)
chunk_step n (ok body r) = Ok (record { start = n - length r - length body; end = n - length r })
chunk_step n (refused k p) = Err (k, p)

-- the Time of the last of the events, of which the first is after the Time prev: in a lawful track that of End_track
unfoldable pub last_time : ℕ → List Event → ℕ
last_time prev [] = prev
last_time prev (e ∷ es) = last_time e.time es

-- a walk that comes to the end of a track, at the Time prev after n events: "End_track Times and event counts (End_track included)", and
-- the sum x of their padding
unfoldable pub walk_step : ℕ → ℕ → ℕ → Outcome (List Event) → Result Walked (ℕ × ℕ)
walk_step prev n x (ok es r) = Ok (record { time = record { 0 = last_time prev es }; events = n + length es; padding = x })
walk_step prev n x (refused k p) = Err (k, p)

-- a track: the Time of its End_track, the number of its events, the place after it, the sum x of their padding
unfoldable pub track_step : ℕ → ℕ → Outcome (List Event) → Result TrackRead (ℕ × ℕ)
track_step n x (ok es r) = Ok (record { time = record { 0 = last_time 0 es }; events = length es; next = n - length r; padding = x })
track_step n x (refused k p) = Err (k, p)

-- all the tracks: the place after the last
unfoldable pub tracks_step : ℕ → Outcome (List (List Event)) → Result ℕ (ℕ × ℕ)
tracks_step n (ok ts r) = Ok (n - length r)
tracks_step n (refused k p) = Err (k, p)

-- what was read of the file f, if anything, is its header
unfoldable pub HeaderOf : List ℕ → Result HeaderRead Refused → Type 0
HeaderOf f (Ok h) = Ok h ≡ header_step (length f) (read_header f)
HeaderOf f (Err r) = Unit {0}
