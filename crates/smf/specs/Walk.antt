-- The events of a track with their places in the file, up to End_track or to the first fault: what every operation walks over that
-- must say where an event stands.
use Rattle.std.specs.Prelude.{ℕ, zero, suc, ◌+◌, ◌-◌, Bool, true, false, List, [], ◌∷◌, map, length}
use Rattle.event.specs.Event.{Event, is_end}
use Rattle.event.specs.Frame.{frame, after, no_status}
use Rattle.event.specs.Outcome.{Outcome, ok, refused}
use Rattle.event.specs.Reader.{read_event}

-- an event and where it stands: from "the first byte of its delta" to the byte after its last
pub record Placed : Type 0 where
  pub start : ℕ
  pub next : ℕ
  pub event : Event

-- the events to End_track, the place after it and the bytes there; or the events before the first fault, its number and place
pub data Walked : Type 0 where
  whole : List Placed → ℕ → List ℕ → Walked
  broken : List Placed → ℕ → ℕ → Walked

-- one more event before those
unfoldable pub behind : Placed → Walked → Walked
behind e (whole es at r) = whole (e ∷ es) at r
behind e (broken es n p) = broken (e ∷ es) n p

-- the event e, End_track or not, then what follows it
unfoldable pub walk_on : Bool → Placed → List ℕ → Walked → Walked
walk_on true e r w = whole (e ∷ []) e.next r
walk_on false e r w = behind e w

-- an event at the place `at`, of which so much was left before it, and then the rest; or the fault, whose place is the event
unfoldable pub stepped : ℕ → ℕ → Outcome Event → (ℕ → Event → List ℕ → Walked) → Walked
stepped at len (ok e r) k =
    walk_on (is_end e.kind) (record { start = at; next = at + (len - length r); event = e }) r (k (at + (len - length r)) e r)
stepped at len (refused n p) k = broken [] n at

-- as read_events: from the place `at` on, after the Time prev, with the status force in force; n is more than there are events
unfoldable pub walked : ℕ → ℕ → ℕ → ℕ → List ℕ → Walked
walked zero at prev force l = broken [] 6 at
walked (suc n) at prev force l =
    stepped at (length l) (read_event prev force l) (λ next e r. walked n next e.time (after (frame e.kind)) r)

-- a track's body whose first byte has the place base
unfoldable pub walked_body : ℕ → List ℕ → Walked
walked_body base body = walked (suc (length body)) base 0 no_status body

-- the events that were met
unfoldable pub placed_of : Walked → List Placed
placed_of (whole es at r) = es
placed_of (broken es n p) = es

-- without their places
abbrev pub events_of : List Placed → List Event
events_of es = map (λ e. e.event) es

-- of several tracks
abbrev pub tracks_of : List (List Placed) → List (List Event)
tracks_of ts = map events_of ts
