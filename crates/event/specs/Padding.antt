-- Document 02, request 8: "Reading a variable-length number now also tells how many bytes it took above the fewest. The event reader passes
-- on the sum over its event's delta and length". First as the spelling says it, then of bytes that are read; the two agree (event_told).
use Rattle.std.specs.Prelude.{ℕ, ◌+◌, ◌-◌, ◌||◌, List, [], ◌∷◌, length, leb, eqb}
use Rattle.event.specs.Choice.{pick}
use Rattle.event.specs.Number.{Width, bytes_in, least}
use Rattle.event.specs.Outcome.{Outcome, ok, refused}
use Rattle.event.specs.Event.{Event}
use Rattle.event.specs.Frame.{Frame, channel1, channel2, exclusive, meta, frame}
use Rattle.event.specs.Spelling.{Rest, left_out, length_in, Spelling}
use Rattle.event.specs.Reader.{read_vlq}

-- ---- of a spelling

-- "how many bytes it took above the fewest": of the number v in so many bytes
unfoldable pub width_padding : Width → ℕ → ℕ
width_padding w v = bytes_in w - bytes_in (least v)

-- of the length of an event after its delta, "every length, a fixed meta's too"; a channel event has none
unfoldable pub rest_padding : Frame → Rest → ℕ
rest_padding (channel1 s a) (left_out out) = 0
rest_padding (channel1 s a) (length_in w) = 0
rest_padding (channel2 s a b) (left_out out) = 0
rest_padding (channel2 s a b) (length_in w) = 0
rest_padding (exclusive s d) (left_out out) = 0
rest_padding (exclusive s d) (length_in w) = width_padding w (length d)
rest_padding (meta t d) (left_out out) = 0
rest_padding (meta t d) (length_in w) = width_padding w (length d)

-- "the sum over its event's delta and length", of an event after one at the Time prev
unfoldable pub spelled_padding : ℕ → Event → Spelling → ℕ
spelled_padding prev e s = width_padding s.delta (e.time - prev) + rest_padding (frame e.kind) s.rest

-- ---- of bytes that are read

-- a number that was read from l took what is not left of it; of a refusal nothing is told
unfoldable pub padding_in : List ℕ → Outcome ℕ → ℕ
padding_in l (ok v r) = length l - length r - bytes_in (least v)
padding_in l (refused k p) = 0

-- "how many bytes it took above the fewest": of the number that l begins with
unfoldable pub vlq_padding : List ℕ → ℕ
vlq_padding l = padding_in l (read_vlq l)

-- after FF: of the length, which follows the type
unfoldable pub meta_padding : List ℕ → ℕ
meta_padding [] = 0
meta_padding (t ∷ l) = vlq_padding l

-- after the delta: of the length, where there is one
unfoldable pub frame_padding : List ℕ → ℕ
frame_padding [] = 0
frame_padding (b ∷ l) = pick (leb b 0xef) 0 (pick (eqb b 0xff) (meta_padding l) (pick (eqb b 0xf0 || eqb b 0xf7) (vlq_padding l) 0))

-- what follows a number
unfoldable pub rest_of : Outcome ℕ → List ℕ
rest_of (ok v r) = r
rest_of (refused k p) = []

-- "the sum over its event's delta and length": of the event that l begins with
unfoldable pub event_padding : List ℕ → ℕ
event_padding l = vlq_padding l + frame_padding (rest_of (read_vlq l))
