-- What document 02 asks to be shown of the folded piece.
use Rattle.std.specs.Prelude.{◌≡◌, ℕ, ◌≤◌, true, false, ◌⊎◌, length, drop}
use mathlib.Core.List.{List, [], ◌∷◌, ◌++◌, Permᴰ}
use Rattle.event.specs.Bytes.{Bytes}
use Rattle.event.specs.Event.{Event, is_end}
use Rattle.event.specs.Manner.{Manner, short}
use Rattle.event.specs.Outcome.{ok}
use Rattle.event.specs.Reader.{read_event}
use Rattle.smf.specs.Piece.{Piece, LawfulPiece}
use Rattle.smf.specs.Layout.{LaidOut}
use Rattle.smf.specs.Manner.{file_of}
use Rattle.smf.specs.Reader.{file_limit, read_file}
use Rattle.smf.specs.Listing.{end_times}
use Rattle.smf.specs.Walk.{Placed, tracks_of}
use Rattle.smf.specs.PlacedFile.{placed_file}
use Rattle.fold_piece.specs.Fold.{joined, by_time, folded_track, folded_piece}
use Rattle.fold_piece.specs.Order.{Rising, at, each_at, Steps}
use Rattle.fold_piece.specs.FoldAnswer.{is_prefix_or_port, most_tracks, fold_outcome, fold_answer, ends_shown, rows_leave, time_shown}

-- of any tracks
pub record EventsFolded (ts : List (List Event)) : Type 0 where
  -- "Each event of the old piece, End_tracks aside, appears once"
  pub once : Permᴰ (by_time (joined ts)) (joined ts)
  -- "events by Time"
  pub rising : Rising 0 (by_time (joined ts))
  -- "equal Times by track number, then in their own order"
  pub each : (t : ℕ) → at t (by_time (joined ts)) ≡ each_at t ts
  -- and no other list of events is so
  pub only : (es : List Event) → Rising 0 es → ((t : ℕ) → at t es ≡ each_at t ts) → es ≡ by_time (joined ts)

-- of a piece that obeys document 01's rules
pub record PieceFolded (p : Piece) : Type 0 where
  pub lawful : LawfulPiece (folded_piece p)
  -- "A format 0 piece comes back the same"
  pub zero : p.format ≡ 0 → folded_piece p ≡ p
  -- of a piece of one track only the format changes
  pub one : length p.tracks ≡ 1 → folded_piece p ≡ record { format = 0; division = p.division; tracks = p.tracks }
  -- folding twice is folding once
  pub again : folded_piece (folded_piece p) ≡ folded_piece p

-- no "Channel_prefix or MIDI_port" among events, and in no track
unfoldable pub FreeEvents : List Event → Type 0
FreeEvents [] = Unit {0}
FreeEvents (e ∷ es) = (is_prefix_or_port e.kind ≡ false) × FreeEvents es

unfoldable pub FreeTracks : List (List Event) → Type 0
FreeTracks [] = Unit {0}
FreeTracks (t ∷ ts) = FreeEvents t × FreeTracks ts

-- a piece that is folded, with so many rows lent
pub record Foldable (rows : ℕ) (p : Piece) : Type 0 where
  pub format : p.format ≤ 1
  pub few : length p.tracks ≤ most_tracks
  pub lent : length p.tracks ≤ rows
  pub free : 2 ≤ length p.tracks → FreeTracks p.tracks

-- of the piece p of an accepted file f
pub record FileFolded (f : List ℕ) (p : Piece) : Type 0 where
  -- it is folded exactly then
  pub folds : (rows : ℕ) → Foldable rows p → fold_outcome rows f ≡ ok (folded_piece p) []
  pub only : (rows : ℕ) (z : Piece) (r : List ℕ) → fold_outcome rows f ≡ ok z r → Foldable rows p
  -- "A folded step never passes 268,435,455"
  pub steps : Steps 0 (folded_track p.tracks)
  -- "so that 27 has no place here": the folded piece has a layout in either manner
  pub laid : (m : Manner) → LaidOut (file_of m (folded_piece p)) (folded_piece p)
  -- its file, if not too long, is accepted and read as it
  pub read : (m : Manner) → length (file_of m (folded_piece p)) ≤ file_limit → read_file (file_of m (folded_piece p)) ≡ ok (folded_piece p) []
  -- and folding that file gives it back
  pub again : (rows : ℕ) → 1 ≤ rows → length (file_of short (folded_piece p)) ≤ file_limit → fold_outcome rows (file_of short (folded_piece p)) ≡ ok (folded_piece p) []
  -- "A format 0 piece comes back the same": with a row lent, folding such a file is tidying it
  pub zero : (rows : ℕ) → 1 ≤ rows → p.format ≡ 0 → fold_outcome rows f ≡ read_file f

-- an End_track, read at its place in the file
pub record EndAt (f : List ℕ) (e : Placed) : Type 0 where
  pub last : is_end e.event.kind ≡ true
  pub prev : ℕ
  pub force : ℕ
  pub come : read_event prev force (drop e.start f) ≡ ok e.event (drop e.next f)

-- each of these is one
unfoldable pub EndsAt : List ℕ → List Placed → Type 0
EndsAt f [] = Unit {0}
EndsAt f (e ∷ es) = EndAt f e × EndsAt f es

-- of the piece p of an accepted file f: "row n shows track n's End_track, that Time"
pub record RowsOf (f : List ℕ) (p : Piece) : Type 0 where
  pub events : tracks_of (placed_file f) ≡ p.tracks
  pub ends : EndsAt f (ends_shown (λ e. e) (placed_file f))
  pub times : ends_shown time_shown (placed_file f) ≡ end_times p.tracks

-- the answers of a fold after which its rows show them
abbrev pub Shows : ℕ → Type 0
Shows number = (number ≡ 0) ⊎ ((number ≡ 14) ⊎ (number ≡ 29))

-- of the numbers of one kind that the rows hold: "After a fold, even one answered 29 or 14, row n shows track n's End_track .. and spare
-- rows stay", after any other answer all stay
pub record RowsFolded (room rows : ℕ) (f : List ℕ) (g : Placed → ℕ) (old : List ℕ) : Type 0 where
  pub shown : Shows (fold_answer room rows f).number
      → rows_leave g (fold_outcome rows f) (placed_file f) old ≡ ends_shown g (placed_file f) ++ drop (length (placed_file f)) old
  pub stay : (Shows (fold_answer room rows f).number → ⊥) → rows_leave g (fold_outcome rows f) (placed_file f) old ≡ old

pub record FoldClaims : Type 0 where
  pub events : (ts : List (List Event)) → EventsFolded ts
  pub piece : (p : Piece) → LawfulPiece p → PieceFolded p
  pub file : (f : List ℕ) (p : Piece) → Bytes f → LaidOut f p → length f ≤ file_limit → FileFolded f p
  pub rows : (f : List ℕ) (p : Piece) → Bytes f → LaidOut f p → length f ≤ file_limit → RowsOf f p
  pub lent : (room rows : ℕ) (f : List ℕ) (g : Placed → ℕ) (old : List ℕ) → Bytes f → RowsFolded room rows f g old
  -- "27 has no place here"
  pub never_27 : (room rows : ℕ) (f : List ℕ) → Bytes f → (fold_answer room rows f).number ≡ 27 → ⊥
  -- with a row for each of the tracks that it may have there is no 37, whatever the bytes
  pub never_37 : (room : ℕ) (f : List ℕ) → Bytes f → (fold_answer room most_tracks f).number ≡ 37 → ⊥
