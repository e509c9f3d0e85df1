-- Document 02, request 8: "the track listing sums these for each track". First as the spelling says it, then of bytes that are read; the
-- two agree for every layout (paddings_told).
use Rattle.std.specs.Prelude.{ℕ, zero, suc, ◌+◌, ◌-◌, List, [], ◌∷◌, length}
use Rattle.event.specs.Choice.{pick}
use Rattle.event.specs.Event.{Event, is_end}
use Rattle.event.specs.Frame.{frame, after, no_status}
use Rattle.event.specs.Spelling.{Spelling}
use Rattle.event.specs.Outcome.{ok, and_then, value_or}
use Rattle.event.specs.Reader.{read_event}
use Rattle.event.specs.Padding.{spelled_padding, event_padding}
use Rattle.smf.specs.Spelling.{TrackSpelling}
use Rattle.smf.specs.Reader.{read_chunk, read_header}

-- ---- of a spelling

-- the sum over a track's events after the Time prev
unfoldable pub spelled_sum : ℕ → List Event → List Spelling → ℕ
spelled_sum prev [] ss = 0
spelled_sum prev (e ∷ es) [] = 0
spelled_sum prev (e ∷ es) (s ∷ ss) = spelled_padding prev e s + spelled_sum e.time es ss

-- "for each track": nothing is carried from one into the next
unfoldable pub spelled_sums : List (List Event) → List TrackSpelling → List ℕ
spelled_sums [] ss = []
spelled_sums (t ∷ ts) [] = []
spelled_sums (t ∷ ts) (s ∷ ss) = spelled_sum 0 t s.events ∷ spelled_sums ts ss

-- ---- of bytes that are read

-- the events that l begins with, up to End_track, as read_events reads them; n is more than there are (it never shows: padding_fuel)
unfoldable pub events_padding : ℕ → ℕ → ℕ → List ℕ → ℕ
events_padding zero prev force l = 0
events_padding (suc n) prev force l =
    value_or 0 (and_then (read_event prev force l) (λ e r.
    ok (event_padding l + pick (is_end e.kind) 0 (events_padding n e.time (after (frame e.kind)) r)) []))

-- every event takes a byte
unfoldable pub all_padding : ℕ → ℕ → List ℕ → ℕ
all_padding prev force l = events_padding (suc (length l)) prev force l

-- the track at the place `at`
unfoldable pub track_padding : ℕ → List ℕ → ℕ
track_padding at l = value_or 0 (and_then (read_chunk at l) (λ body r. ok (all_padding 0 no_status body) []))

-- so many tracks from the place `at` on
unfoldable pub tracks_padding : ℕ → ℕ → List ℕ → List ℕ
tracks_padding zero at l = []
tracks_padding (suc n) at l =
    value_or [] (and_then (read_chunk at l) (λ body r. ok (all_padding 0 no_status body ∷ tracks_padding n (at + (length l - length r)) r) []))

-- the tracks of a file, as many as its header counts
unfoldable pub paddings : List ℕ → List ℕ
paddings f = value_or [] (and_then (read_header f) (λ h l. ok (tracks_padding h.count (length f - length l) l) []))
