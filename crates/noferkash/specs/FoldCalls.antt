-- What document 02 asks to be shown of a fold, for calls of noferkash_fold. The folded file goes on as the bytes that the call's number
-- counts in its room: take (length_of r) new.
use Rattle.std.specs.Prelude.{◌≡◌, ℕ, ◌≤◌, List, [], length, take}
use Rattle.event.specs.Bytes.{Bytes}
use Rattle.event.specs.Manner.{short}
use Rattle.event.specs.Outcome.{ok}
use Rattle.smf.specs.Piece.{Piece}
use Rattle.smf.specs.Layout.{LaidOut}
use Rattle.smf.specs.Manner.{file_of}
use Rattle.smf.specs.Reader.{file_limit, read_file}
use Rattle.fold_piece.specs.Fold.{folded_piece}
use Rattle.fold_piece.specs.FoldAnswer.{most_tracks}
use Rattle.fold_piece.specs.FoldClaims.{Foldable}
use Rattle.noferkash.specs.Packed.{number_of, length_of}
use Rattle.noferkash.specs.Calls.{CheckCall, TidyCall, FoldCall}
use Rattle.noferkash.specs.Demand2.{Writes, WritesFile}

-- of a call on a file whose piece is p, into a room that held old, which answered r and left new
pub record FoldKept (p : Piece) (old : List ℕ) (r : ℕ) (new : List ℕ) : Type 0 where
  -- a piece of format 0 or 1 and of at most 64 tracks that has, if it has several, no "Channel_prefix or MIDI_port" is written folded in
  -- manner 1, refused only for length (29) or room (14),
  pub folds : Foldable most_tracks p → WritesFile (file_of short (folded_piece p)) old r new
  -- and no other is
  pub only : number_of r ≡ 0 → Foldable most_tracks p
  -- noferkash_check accepts what was written,
  pub accepted : (r' : ℕ) → number_of r ≡ 0 → CheckCall (take (length_of r) new) r' → r' ≡ 0
  -- its piece is the folded piece,
  pub piece : number_of r ≡ 0 → read_file (take (length_of r) new) ≡ ok (folded_piece p) []
  -- and folding it gives it back: folding twice is folding once
  pub again : (other : List ℕ) (r' : ℕ) (new' : List ℕ) → number_of r ≡ 0 → FoldCall (take (length_of r) new) other r' new' → Writes (file_of short (folded_piece p)) other r' new'

pub record FoldCalls : Type 0 where
  pub kept : (f : List ℕ) (p : Piece) (old : List ℕ) (r : ℕ) (new : List ℕ) → Bytes f → LaidOut f p → length f ≤ file_limit → FoldCall f old r new → FoldKept p old r new
  -- "A format 0 piece comes back the same": folding its file is tidying it
  pub zero : (f : List ℕ) (p : Piece) (old : List ℕ) (r : ℕ) (new : List ℕ) → Bytes f → LaidOut f p → length f ≤ file_limit → p.format ≡ 0 → FoldCall f old r new → TidyCall f old r new
  -- a call that answers number 0 had an accepted file
  pub from_file : (f old : List ℕ) (r : ℕ) (new : List ℕ) → Bytes f → FoldCall f old r new → number_of r ≡ 0 → (p : Piece) × LaidOut f p × (length f ≤ file_limit)
  -- "27 has no place here"; and it has its own rows, so 37 never comes
  pub never_27 : (f old : List ℕ) (r : ℕ) (new : List ℕ) → Bytes f → FoldCall f old r new → number_of r ≡ 27 → ⊥
  pub never_37 : (f old : List ℕ) (r : ℕ) (new : List ℕ) → Bytes f → FoldCall f old r new → number_of r ≡ 37 → ⊥
