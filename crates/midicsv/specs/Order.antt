-- The order of the records: "Header; then for each of the tracks it counts (more or fewer is 26), numbered 1, 2, .., Start_track at time 0,
-- events of that track with Times not falling, End_track; then End_of_file; then no record".
use Rattle.std.specs.Prelude.{ℕ, suc, ◌-◌, Bool, true, false, ◌&&◌, List, [], ◌∷◌, ◌++◌, length, get_or, leb, ltb, eqb}
use Rattle.event.specs.Event.{Event, is_end}
use Rattle.smf.specs.Division.{division_of}
use Rattle.smf.specs.Piece.{Piece, Header}
use Rattle.midicsv.specs.Table.{RecordName, header, start_track, end_of_file, event}
use Rattle.midicsv.specs.Record.{Values, Record}
use Rattle.midicsv.specs.Result.{Result, good, bad, test}
use Rattle.midicsv.specs.KindOf.{kind_named}

-- before the Header; between tracks, with those read; in a track, with its events and the Time of the last; after End_of_file
pub data State : Type 0 where
  first : State
  between : Header → List (List Event) → State
  inside : Header → List (List Event) → List Event → ℕ → State
  finished : Piece → State

-- 26: "a wrong Track, or a Time not 0 in Header, Start_track or End_of_file"
unfoldable pub take_header : ℕ → ℕ → List ℕ → Result State
take_header track time ns =
    test (eqb track 0 && eqb time 0) 26
    (good (between (record { format = get_or ns 0 0; count = get_or ns 1 0; division = division_of (get_or ns 2 0) }) []))

-- "for each of the tracks it counts (more or fewer is 26), numbered 1, 2, .."
unfoldable pub take_start : Header → List (List Event) → ℕ → ℕ → Result State
take_start h ts track time =
    test (ltb (length ts) h.count && (eqb track (suc (length ts)) && eqb time 0)) 26 (good (inside h ts [] 0))

-- "then End_of_file", when all the tracks that the Header counts are there
unfoldable pub take_end : Header → List (List Event) → ℕ → ℕ → Result State
take_end h ts track time =
    test (eqb (length ts) h.count && (eqb track 0 && eqb time 0)) 26
    (good (finished (record { format = h.format; division = h.division; tracks = ts })))

-- after the event e, which is End_track or not
unfoldable pub after_event : Bool → Header → List (List Event) → List Event → Event → State
after_event true h ts es e = between h (ts ++ ((es ++ (e ∷ [])) ∷ []))
after_event false h ts es e = inside h ts (es ++ (e ∷ [])) e.time

-- 26: "record not permitted there, or Time falling"; 27: "step in Time over 268,435,455"
unfoldable pub take_event : Header → List (List Event) → List Event → ℕ → ℕ → Event → Result State
take_event h ts es prev track e =
    test (eqb track (suc (length ts)) && leb prev e.time) 26
    (test (leb (e.time - prev) 268435455) 27
    (good (after_event (is_end e.kind) h ts es e)))

-- 26: "record not permitted there"
unfoldable pub step_on : State → RecordName → ℕ → ℕ → Values → Result State
step_on first header track time v = take_header track time v.columns
step_on first start_track track time v = bad 26
step_on first end_of_file track time v = bad 26
step_on first (event g) track time v = bad 26
step_on (between h ts) header track time v = bad 26
step_on (between h ts) start_track track time v = take_start h ts track time
step_on (between h ts) end_of_file track time v = take_end h ts track time
step_on (between h ts) (event g) track time v = bad 26
step_on (inside h ts es prev) header track time v = bad 26
step_on (inside h ts es prev) start_track track time v = bad 26
step_on (inside h ts es prev) end_of_file track time v = bad 26
step_on (inside h ts es prev) (event g) track time v = take_event h ts es prev track (record { time = time; kind = kind_named g v })
step_on (finished p) header track time v = bad 26
step_on (finished p) start_track track time v = bad 26
step_on (finished p) end_of_file track time v = bad 26
step_on (finished p) (event g) track time v = bad 26

-- a record that the line has told
unfoldable pub step : State → Record → Result State
step s r = step_on s r.name r.track r.time r.values
