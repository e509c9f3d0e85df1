-- "Fold a format 1 piece into one track of format 0, division kept: events by Time, equal Times by track number, then in their
-- own order; the End_tracks give way to one at the greatest of their Times."
use Rattle.std.specs.Prelude.{ℕ, max, List, [], ◌∷◌, ◌++◌, leb}
use Rattle.event.specs.Choice.{pick}
use Rattle.event.specs.Event.{Event, is_end, end_track}
use Rattle.smf.specs.Piece.{Piece}
use Rattle.smf.specs.Listing.{end_times}

-- the events of a track, "End_tracks aside"
unfoldable pub others : List Event → List Event
others [] = []
others (e ∷ es) = pick (is_end e.kind) (others es) (e ∷ others es)

-- those of all tracks, track after track: "by track number, then in their own order"
unfoldable pub joined : List (List Event) → List Event
joined [] = []
joined (t ∷ ts) = others t ++ joined ts

-- the event e among events that stand by Time: before the first that is not earlier
unfoldable pub insert : Event → List Event → List Event
insert e [] = e ∷ []
insert e (x ∷ xs) = pick (leb e.time x.time) (e ∷ (x ∷ xs)) (x ∷ insert e xs)

-- "events by Time", those at equal Times in the order in which they stood
unfoldable pub by_time : List Event → List Event
by_time [] = []
by_time (e ∷ es) = insert e (by_time es)

-- "the greatest of their Times"
unfoldable pub greatest : List ℕ → ℕ
greatest [] = 0
greatest (n ∷ ns) = max n (greatest ns)

-- the one End_track
abbrev pub end_at : ℕ → Event
end_at t = record { time = t; kind = end_track }

-- the one track
unfoldable pub folded_track : List (List Event) → List Event
folded_track ts = by_time (joined ts) ++ (end_at (greatest (end_times ts)) ∷ [])

-- "one track of format 0, division kept"
unfoldable pub folded_piece : Piece → Piece
folded_piece p = record { format = 0; division = p.division; tracks = folded_track p.tracks ∷ [] }
