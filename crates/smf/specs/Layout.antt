-- "Layout of a piece with a permitted spelling". Nothing here knows of a reader.
use Rattle.std.specs.Prelude.{◌≡◌, ℕ, ◌+◌, ◌≤◌, List, [], ◌∷◌, ◌++◌, length}
use Rattle.event.specs.Bytes.{big_endian}
use Rattle.event.specs.Event.{Event}
use Rattle.event.specs.Spelling.{Spelling}
use Rattle.event.specs.Layout.{lay_event}
use Rattle.smf.specs.Division.{Division, bits}
use Rattle.smf.specs.Piece.{Piece, LawfulPiece}
use Rattle.smf.specs.Chunk.{header_tag, track_tag, Chunk}
use Rattle.smf.specs.Spelling.{TrackSpelling, PieceSpelling, PermittedPiece}

-- "Each event is its delta, which is its Time less the Time of the event before it in the track (less 0 for the first), then .."
unfoldable pub lay_events : ℕ → List Event → List Spelling → List ℕ
lay_events prev [] ss = []
lay_events prev (e ∷ es) [] = []
lay_events prev (e ∷ es) (s ∷ ss) = lay_event prev e s ++ lay_events e.time es ss

-- a chunk's tag, the number of its bytes, and these
unfoldable pub lay_chunk : ℕ → List ℕ → List ℕ
lay_chunk tag l = big_endian 4 tag ++ (big_endian 4 (length l) ++ l)

-- chunks that readers pass over, one after the other
unfoldable pub lay_chunks : List Chunk → List ℕ
lay_chunks [] = []
lay_chunks (c ∷ cs) = lay_chunk c.tag c.holds ++ lay_chunks cs

-- "for each track `MTrk`, the number of bytes its events take, and those bytes"
unfoldable pub lay_track : List Event → List Spelling → List ℕ
lay_track es ss = lay_chunk track_tag (lay_events 0 es ss)

-- "As many tracks as counted"; other chunks "may stand before, between or after the tracks", here those before each
unfoldable pub lay_tracks : List (List Event) → List TrackSpelling → List ℕ
lay_tracks [] ss = []
lay_tracks (t ∷ ts) [] = []
lay_tracks (t ∷ ts) (s ∷ ss) = lay_chunks s.before ++ (lay_track t s.events ++ lay_tracks ts ss)

-- "division", its 16 bits
unfoldable pub lay_division : Division → List ℕ
lay_division d = big_endian 2 (bits d)

-- "`MThd`", the number of its other bytes ("the header may be longer than 6"), "then three 16-bit numbers, high byte first: format ..,
-- track count .., division", and "its extra bytes"; after it l
unfoldable pub lay_header : ℕ → ℕ → Division → List ℕ → List ℕ → List ℕ
lay_header format count division extra l =
    big_endian 4 header_tag
    ++ (big_endian 4 (6 + length extra) ++ (big_endian 2 format ++ (big_endian 2 count ++ (lay_division division ++ (extra ++ l)))))

-- "the header with the piece's format, number of tracks and division", then the tracks, then the chunks after the last
unfoldable pub lay_piece : Piece → PieceSpelling → List ℕ
lay_piece p s =
    lay_header p.format (length p.tracks) p.division s.extra (lay_tracks p.tracks s.tracks ++ lay_chunks s.behind)

-- no "track too long for its number"
unfoldable pub ShortTracks : List (List Event) → List TrackSpelling → Type 0
ShortTracks [] ss = Unit {0}
ShortTracks (t ∷ ts) [] = Unit {0}
ShortTracks (t ∷ ts) (s ∷ ss) = (length (lay_events 0 t s.events) ≤ 4294967295) × ShortTracks ts ss

-- "A piece that breaks a rule or range above, or has a step or a track too long for its number, has no layout": with this
-- spelling the piece has one (a step, or data, too long for a number has no permitted spelling)
pub record HasLayout (p : Piece) (s : PieceSpelling) : Type 0 where
  pub lawful : LawfulPiece p
  pub permitted : PermittedPiece p s
  pub short : ShortTracks p.tracks s.tracks

-- the bytes f are the layout of the piece p with some permitted spelling
pub record LaidOut (f : List ℕ) (p : Piece) : Type 0 where
  pub spelling : PieceSpelling
  pub has : HasLayout p spelling
  pub bytes : lay_piece p spelling ≡ f
