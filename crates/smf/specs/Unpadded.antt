-- What pads nothing: a file whose numbers all take the fewest bytes, whose statuses are left out wherever permitted, and which has none of
-- the bytes that readers pass over, is the manner 1 file of its piece.
use Rattle.std.specs.Prelude.{◌≡◌, ℕ, List, [], ◌∷◌}
use Rattle.event.specs.Event.{Event}
use Rattle.event.specs.Frame.{frame, after, no_status}
use Rattle.event.specs.Spelling.{Spelling, LeavesOut}
use Rattle.event.specs.Manner.{Manner, short}
use Rattle.smf.specs.Piece.{Piece}
use Rattle.smf.specs.Spelling.{TrackSpelling, PieceSpelling}
use Rattle.smf.specs.Layout.{lay_piece, HasLayout}
use Rattle.smf.specs.Manner.{spelling, file_of}
use Rattle.smf.specs.Padding.{spelled_sums}

-- no track has a byte above the fewest
unfoldable pub AllZero : List ℕ → Type 0
AllZero [] = Unit {0}
AllZero (n ∷ ns) = (n ≡ 0) × AllZero ns

-- "a status left out wherever permitted", of a track's events with the status force in force
unfoldable pub EventsLeaveOut : ℕ → List Event → List Spelling → Type 0
EventsLeaveOut force [] ss = Unit {0}
EventsLeaveOut force (e ∷ es) [] = Unit {0}
EventsLeaveOut force (e ∷ es) (s ∷ ss) = LeavesOut force (frame e.kind) s.rest × EventsLeaveOut (after (frame e.kind)) es ss

-- of each track, and no other chunk before it
unfoldable pub TracksLeaveOut : List (List Event) → List TrackSpelling → Type 0
TracksLeaveOut [] ss = Unit {0}
TracksLeaveOut (t ∷ ts) [] = Unit {0}
TracksLeaveOut (t ∷ ts) (s ∷ ss) = EventsLeaveOut no_status t s.events × (s.before ≡ []) × TracksLeaveOut ts ss

-- a spelling that does so
pub record Unpadded (p : Piece) (s : PieceSpelling) : Type 0 where
  pub padding : AllZero (spelled_sums p.tracks s.tracks)
  pub statuses : TracksLeaveOut p.tracks s.tracks
  pub extra : s.extra ≡ []
  pub behind : s.behind ≡ []

pub record UnpaddedIsShort : Type 0 where
  -- its file is the manner 1 file,
  pub only : (p : Piece) (s : PieceSpelling) → HasLayout p s → Unpadded p s → lay_piece p s ≡ file_of short p
  -- whose spelling does so;
  pub short_does : (p : Piece) → Unpadded p (spelling short p)
  -- "Writers use the fewest bytes": neither manner pads
  pub neither : (m : Manner) (p : Piece) → AllZero (spelled_sums p.tracks (spelling m p).tracks)
