-- The two manners: each spelling is permitted where any is, so its file is a layout and reads back.
use mathlib.Core.Path.{◌≡◌, refl, ap}
use Prim.Native.Nat.{ℕ, ◌*◌, ◌≤◌}
use mathlib.Core.List.{List, [], ◌∷◌, ◌++◌}
use native.Mathlib.Omega.{arith}
use lib.ListN.{length, length-append}
use Rattle.event.specs.Event.{Event}
use Rattle.event.specs.Frame.{frame, after, no_status}
use Rattle.event.specs.Spelling.{Spelling, Permitted}
use Rattle.event.specs.Outcome.{ok}
use Rattle.event.proofs.BesideLaws.{Beside, Fewest, fewest_beside, Double, double_beside}
use Rattle.event.proofs.MannerLaws.{event_permitted, event_fewest, event_double}
use Rattle.smf.specs.Piece.{Piece, LawfulPiece}
use Rattle.smf.specs.Chunk.{track_tag, AllPassed}
use Rattle.smf.specs.Spelling.{TrackSpelling, PieceSpelling, PermittedEvents, PermittedTracks, PermittedPiece}
use Rattle.smf.specs.Layout.{lay_events, lay_chunk, lay_chunks, lay_track, lay_tracks, lay_piece, ShortTracks, LaidOut}
use Rattle.event.specs.Manner.{Manner, short, spell_event}
use Rattle.event.specs.Layout.{lay_event}
use Rattle.smf.specs.Manner.{spell_events, spell_tracks, spelling, file_of}
use Rattle.smf.specs.Reader.{read_piece}
use Rattle.smf.proofs.PassedLaws.{chunk_length}
use Rattle.smf.proofs.FileLaws.{piece_read_lem, header_size}

pub events_permitted : (m : Manner) (prev force : ℕ) (es : List Event) (ss : List Spelling) → PermittedEvents prev force es ss
    → PermittedEvents prev force es (spell_events m prev force es)
unfolding PermittedEvents spell_events
events_permitted m prev force [] ss p = tt
events_permitted m prev force (e ∷ es) [] p = absurd p
events_permitted m prev force (e ∷ es) (s ∷ ss) p =
    (event_permitted m prev force e s p.0, events_permitted m e.time (after (frame e.kind)) es ss p.1)

tracks_permitted : (m : Manner) (ts : List (List Event)) (ss : List TrackSpelling) → PermittedTracks ts ss → PermittedTracks ts (spell_tracks m ts)
unfolding PermittedTracks spell_tracks AllPassed
tracks_permitted m [] ss p = tt
tracks_permitted m (t ∷ ts) [] p = absurd p
tracks_permitted m (t ∷ ts) (s ∷ ss) p = (events_permitted m 0 no_status t s.events p.0, tt, tracks_permitted m ts ss p.2)

-- the manner's spelling of a piece is permitted, wherever the piece has a permitted spelling at all
pub manner_permitted : (m : Manner) (p : Piece) (s : PieceSpelling) → PermittedPiece p s → PermittedPiece p (spelling m p)
unfolding spelling AllPassed
manner_permitted m p s h = record { tracks = tracks_permitted m p.tracks s.tracks h.tracks; extra = tt; header = omega arith; behind = tt }

-- and the manner's file reads back as the piece
pub manner_read : (m : Manner) (p : Piece) (s : PieceSpelling) → LawfulPiece p → PermittedPiece p s → ShortTracks p.tracks (spelling m p).tracks
    → read_piece (file_of m p) ≡ ok p []
unfolding file_of
manner_read m p s l h k = piece_read_lem p (spelling m p) (record { lawful = l; permitted = manner_permitted m p s h; short = k })

-- ---- a manner's bytes beside those of any permitted spelling: what holds of each event and passes to chunks holds of tracks

module _ (m : Manner) (W : List ℕ → List ℕ → Type 0) (beside : Beside W) (chunk : (tag : ℕ) (x y : List ℕ) → W x y → W (lay_chunk tag x) (lay_chunk tag y)) (one : (prev force : ℕ) (e : Event) (s : Spelling) → Permitted prev force e s → W (lay_event prev e (spell_event m prev force e)) (lay_event prev e s)) where
  events_beside : (prev force : ℕ) (es : List Event) (ss : List Spelling) → PermittedEvents prev force es ss → W (lay_events prev es (spell_events m prev force es)) (lay_events prev es ss)
  unfolding PermittedEvents spell_events lay_events
  events_beside prev force [] ss p = beside.same []
  events_beside prev force (e ∷ es) [] p = absurd p
  events_beside prev force (e ∷ es) (s ∷ ss) p = beside.both _ _ _ _ (one prev force e s p.0) (events_beside e.time (after (frame e.kind)) es ss p.1)

  -- chunks before a track, of which a manner writes none
  tracks_beside : (ts : List (List Event)) (ss : List TrackSpelling) → PermittedTracks ts ss → W (lay_tracks ts (spell_tracks m ts)) (lay_tracks ts ss)
  unfolding PermittedTracks spell_tracks lay_tracks lay_track lay_chunks
  tracks_beside [] ss p = beside.same []
  tracks_beside (t ∷ ts) [] p = absurd p
  tracks_beside (t ∷ ts) (s ∷ ss) p =
      beside.both [] (lay_chunks s.before) _ _ (beside.none (lay_chunks s.before))
      (beside.both _ _ _ _ (chunk track_tag _ _ (events_beside 0 no_status t s.events p.0)) (tracks_beside ts ss p.2))

-- either manner's are at most twice as many
double_chunk : (tag : ℕ) (x y : List ℕ) → Double x y → Double (lay_chunk tag x) (lay_chunk tag y)
double_chunk tag x y h = omega (arith, chunk_length tag x, chunk_length tag y, h)

pub events_double : (m : Manner) (prev force : ℕ) (es : List Event) (ss : List Spelling) → PermittedEvents prev force es ss
    → Double (lay_events prev es (spell_events m prev force es)) (lay_events prev es ss)
events_double m = events_beside m Double double_beside double_chunk (event_double m)

pub manner_events : (m : Manner) (prev force : ℕ) (es : List Event) (ss : List Spelling) → PermittedEvents prev force es ss
    → length (lay_events prev es (spell_events m prev force es)) ≤ 2 * length (lay_events prev es ss)
manner_events = events_double

pub tracks_double : (m : Manner) (ts : List (List Event)) (ss : List TrackSpelling) → PermittedTracks ts ss → Double (lay_tracks ts (spell_tracks m ts)) (lay_tracks ts ss)
tracks_double m = tracks_beside m Double double_beside double_chunk (event_double m)

pub manner_tracks : (m : Manner) (ts : List (List Event)) (ss : List TrackSpelling) → PermittedTracks ts ss → length (lay_tracks ts (spell_tracks m ts)) ≤ 2 * length (lay_tracks ts ss)
manner_tracks = tracks_double

-- the short manner's are the fewest, and no others are as few; the number of a chunk's bytes follows these
fewest_chunk : (tag : ℕ) (x y : List ℕ) → Fewest x y → Fewest (lay_chunk tag x) (lay_chunk tag y)
fewest_chunk tag x y l =
    let f = l.no_more in
    let a = chunk_length tag x in
    let b = chunk_length tag y in
    record { no_more = omega (arith, f, a, b); only = λ h. ap (lay_chunk tag) (l.only (omega (arith, h, a, b))) }

events_fewest : (prev force : ℕ) (es : List Event) (ss : List Spelling) → PermittedEvents prev force es ss
    → Fewest (lay_events prev es (spell_events short prev force es)) (lay_events prev es ss)
events_fewest = events_beside short Fewest fewest_beside fewest_chunk event_fewest

pub short_events : (prev force : ℕ) (es : List Event) (ss : List Spelling) → PermittedEvents prev force es ss
    → length (lay_events prev es (spell_events short prev force es)) ≤ length (lay_events prev es ss)
short_events prev force es ss p = (events_fewest prev force es ss p).no_more

pub tracks_fewest : (ts : List (List Event)) (ss : List TrackSpelling) → PermittedTracks ts ss → Fewest (lay_tracks ts (spell_tracks short ts)) (lay_tracks ts ss)
tracks_fewest = tracks_beside short Fewest fewest_beside fewest_chunk event_fewest

-- so the short manner's file of a piece that has a layout is a layout too
short_short : (ts : List (List Event)) (ss : List TrackSpelling) → PermittedTracks ts ss → ShortTracks ts ss → ShortTracks ts (spell_tracks short ts)
unfolding PermittedTracks ShortTracks spell_tracks
short_short [] ss p h = tt
short_short (t ∷ ts) [] p h = absurd p
short_short (t ∷ ts) (s ∷ ss) p h = (omega (arith, (events_fewest 0 no_status t s.events p.0).no_more, h.0), short_short ts ss p.2 h.1)

pub short_laid : (f : List ℕ) (p : Piece) → LaidOut f p → LaidOut (file_of short p) p
unfolding file_of spelling
short_laid f p l =
    record {
      spelling = spelling short p;
      has =
          record {
            lawful = l.has.lawful;
            permitted = manner_permitted short p l.spelling l.has.permitted;
            short = short_short p.tracks l.spelling.tracks l.has.permitted.tracks l.has.short;
          };
      bytes = refl;
    }

-- tracks that take few bytes together are each short
few_short : (ts : List (List Event)) (ss : List TrackSpelling) → PermittedTracks ts ss → length (lay_tracks ts ss) ≤ 4294967295 → ShortTracks ts ss
unfolding PermittedTracks ShortTracks lay_tracks lay_track
few_short [] ss p h = tt
few_short (t ∷ ts) [] p h = absurd p
few_short (t ∷ ts) (s ∷ ss) p h =
    let chunks = length-append (lay_chunks s.before) (lay_chunk track_tag (lay_events 0 t s.events) ++ lay_tracks ts ss) in
    let size = length-append (lay_chunk track_tag (lay_events 0 t s.events)) (lay_tracks ts ss) in
    let track = chunk_length track_tag (lay_events 0 t s.events) in
    (omega (arith, chunks, size, track, h), few_short ts ss p.2 (omega (arith, chunks, size, h)))

-- in either manner the piece of a file of permitted length has a layout
pub manner_laid : (m : Manner) (f : List ℕ) (p : Piece) → LaidOut f p → length f ≤ 1048576 → LaidOut (file_of m p) p
unfolding file_of spelling lay_piece
manner_laid m f p l h =
    let tracks = tracks_double m p.tracks l.spelling.tracks l.has.permitted.tracks in
    let whole = ap length l.bytes in
    let size = header_size p.format (length p.tracks) p.division l.spelling.extra (lay_tracks p.tracks l.spelling.tracks ++ lay_chunks l.spelling.behind) in
    let all = length-append (lay_tracks p.tracks l.spelling.tracks) (lay_chunks l.spelling.behind) in
    let permitted = manner_permitted m p l.spelling l.has.permitted in
    record {
      spelling = spelling m p;
      has = record { lawful = l.has.lawful; permitted = permitted; short = few_short p.tracks (spell_tracks m p.tracks) permitted.tracks (omega (arith, tracks, whole, size, all, h)) };
      bytes = refl;
    }
