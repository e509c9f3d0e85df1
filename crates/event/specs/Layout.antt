-- The layout of an event: "its delta, which is its Time less the Time of the event before it in the track (less 0 for the
-- first), then the bytes of its row in the table, less the status byte where the spelling leaves it out".
use Rattle.std.specs.Prelude.{ℕ, ◌-◌, Bool, true, false, List, [], ◌∷◌, ◌++◌, length}
use Rattle.event.specs.Number.{vlq}
use Rattle.event.specs.Event.{Event}
use Rattle.event.specs.Frame.{Frame, channel1, channel2, exclusive, meta, frame}
use Rattle.event.specs.Spelling.{Rest, left_out, length_in, Spelling}

-- the data bytes l of a channel event, with the status s before them unless it is left out
unfoldable pub lay_channel : Bool → ℕ → List ℕ → List ℕ
lay_channel true s l = l
lay_channel false s l = s ∷ l

-- the bytes of a row; a spelling of the other sort is never permitted and lays out nothing
unfoldable pub lay_frame : Frame → Rest → List ℕ
lay_frame (channel1 s a) (left_out out) = lay_channel out s (a ∷ [])
lay_frame (channel1 s a) (length_in w) = []
lay_frame (channel2 s a b) (left_out out) = lay_channel out s (a ∷ b ∷ [])
lay_frame (channel2 s a b) (length_in w) = []
lay_frame (exclusive s d) (left_out out) = []
lay_frame (exclusive s d) (length_in w) = s ∷ (vlq w (length d) ++ d)
lay_frame (meta t d) (left_out out) = []
lay_frame (meta t d) (length_in w) = 0xff ∷ t ∷ (vlq w (length d) ++ d)

-- an event after one at the Time prev: "its delta ..., then the bytes of its row in the table"
unfoldable pub lay_event : ℕ → Event → Spelling → List ℕ
lay_event prev e s = vlq s.delta (e.time - prev) ++ lay_frame (frame e.kind) s.rest
