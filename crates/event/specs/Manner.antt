-- "Two manners of writing: 0 full (every status byte written), 1 short (a status left out wherever permitted)", as the spelling of
-- one event.
use Rattle.std.specs.Prelude.{ℕ, ◌-◌, false, length, eqb}
use Rattle.event.specs.Number.{least}
use Rattle.event.specs.Event.{Event}
use Rattle.event.specs.Frame.{Frame, channel1, channel2, exclusive, meta, frame}
use Rattle.event.specs.Spelling.{Rest, left_out, length_in, Spelling}

-- "0 full (every status byte written), 1 short (a status left out wherever permitted)"
pub data Manner : Type 0 where
  full short : Manner

-- the status s, with force in force
unfoldable pub status_in : Manner → ℕ → ℕ → Rest
status_in full force s = left_out false
status_in short force s = left_out (eqb force s)

-- "Writers use the fewest bytes"
unfoldable pub rest_in : Manner → ℕ → Frame → Rest
rest_in m force (channel1 s a) = status_in m force s
rest_in m force (channel2 s a b) = status_in m force s
rest_in m force (exclusive s d) = length_in (least (length d))
rest_in m force (meta t d) = length_in (least (length d))

-- an event after one at the Time prev, with the status force in force
unfoldable pub spell_event : Manner → ℕ → ℕ → Event → Spelling
spell_event m prev force e = record { delta = least (e.time - prev); rest = rest_in m force (frame e.kind) }
