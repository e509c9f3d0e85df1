-- The spelling of a piece: one for each event of each track, and no more. "Demand 3's spellings gain these bytes": the header's extra
-- bytes, and the chunks with other tags before each track and after the last one.
use Rattle.std.specs.Prelude.{ℕ, ◌+◌, ◌≤◌, List, [], ◌∷◌, length}
use Rattle.event.specs.Bytes.{Bytes}
use Rattle.event.specs.Event.{Event}
use Rattle.event.specs.Frame.{frame, after, no_status}
use Rattle.event.specs.Spelling.{Spelling, Permitted}
use Rattle.smf.specs.Piece.{Piece}
use Rattle.smf.specs.Chunk.{Chunk, AllPassed}

-- of a track: the chunks before it, and the spellings of its events
pub record TrackSpelling : Type 0 where
  pub before : List Chunk
  pub events : List Spelling

-- of a piece: the header's extra bytes, its tracks, the chunks after the last of them
pub record PieceSpelling : Type 0 where
  pub extra : List ℕ
  pub tracks : List TrackSpelling
  pub behind : List Chunk

-- the spelling of a track's events after the Time prev, with the status force in force, is permitted;
-- "A channel status stays in force after its event within the track"
unfoldable pub PermittedEvents : ℕ → ℕ → List Event → List Spelling → Type 0
PermittedEvents prev force [] [] = Unit {0}
PermittedEvents prev force [] (s ∷ ss) = ⊥
PermittedEvents prev force (e ∷ es) [] = ⊥
PermittedEvents prev force (e ∷ es) (s ∷ ss) =
    Permitted prev force e s × PermittedEvents e.time (after (frame e.kind)) es ss

-- "Track start .. leave no status in force"
unfoldable pub PermittedTracks : List (List Event) → List TrackSpelling → Type 0
PermittedTracks [] [] = Unit {0}
PermittedTracks [] (s ∷ ss) = ⊥
PermittedTracks (t ∷ ts) [] = ⊥
PermittedTracks (t ∷ ts) (s ∷ ss) = PermittedEvents 0 no_status t s.events × AllPassed s.before × PermittedTracks ts ss

-- "It is permitted when ..", for the whole piece; "the header may be longer than 6", as its number of four bytes says
pub record PermittedPiece (p : Piece) (s : PieceSpelling) : Type 0 where
  pub tracks : PermittedTracks p.tracks s.tracks
  pub extra : Bytes s.extra
  pub header : 6 + length s.extra ≤ 4294967295
  pub behind : AllPassed s.behind
