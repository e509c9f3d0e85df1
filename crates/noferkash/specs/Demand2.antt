-- Demand 2 for calls: "both round trips keep the piece". A text or file goes on as the bytes that the first call's number counts in its
-- room: take (length_of r) new.
use Rattle.std.specs.Prelude.{◌≡◌, ℕ, ◌<◌, ◌≤◌, List, [], ◌++◌, length, take, drop}
use Rattle.event.specs.Bytes.{Bytes}
use Rattle.event.specs.Outcome.{ok}
use Rattle.smf.specs.Piece.{Piece}
use Rattle.smf.specs.Layout.{LaidOut}
use Rattle.smf.specs.Manner.{file_of}
use Rattle.smf.specs.Reader.{file_limit, read_file}
use Rattle.smf.specs.Answer.{success, refusal, room_needed}
use Rattle.midicsv.specs.Text.{text_of}
use Rattle.midicsv.specs.PieceOfText.{piece_of_text, text_limit}
use Rattle.midicsv_read.specs.ToFile.{manner_numbered}
use Rattle.noferkash.specs.Packed.{number_of, length_of, Says}
use Rattle.noferkash.specs.Calls.{CheckCall, TextCall, FileCall}

-- a call that answers r and leaves new is to write `whole` into a room that held old: it is refused only for room (14), and succeeds
-- wherever the room allows it; "lent bytes past it stay"
pub record Writes (whole old : List ℕ) (r : ℕ) (new : List ℕ) : Type 0 where
  pub fits : length whole ≤ length old → Says r (success (length whole)) × (new ≡ whole ++ drop (length whole) old)
  pub room : length old < length whole → Says r (room_needed (length whole)) × (new ≡ old)

-- of a file: refused only for length (29) or room (14), and it succeeds wherever the length and the room allow it
pub record WritesFile (whole old : List ℕ) (r : ℕ) (new : List ℕ) : Type 0 where
  pub long : file_limit < length whole → Says r (refusal 29 0) × (new ≡ old)
  pub short : length whole ≤ file_limit → Writes whole old r new

-- file to text to file, for a file whose piece is p: file_to_text answered r and left new in the room old. Its text, turned back in
-- either manner, is the file of that same piece, which is read as that piece
pub record FileKept (p : Piece) (old : List ℕ) (r : ℕ) (new : List ℕ) : Type 0 where
  pub text : Writes (text_of p) old r new
  pub back : (manner : ℕ) (other : List ℕ) (r' : ℕ) (new' : List ℕ) → number_of r ≡ 0 → manner ≤ 1 → FileCall (take (length_of r) new) manner other r' new'
      → WritesFile (file_of (manner_numbered manner) p) other r' new'
  pub same : (manner : ℕ) → length (file_of (manner_numbered manner) p) ≤ file_limit → read_file (file_of (manner_numbered manner) p) ≡ ok p []

-- text to file to text, for a text whose piece is p: text_to_file answered r and left new in the room old. Its file, "if not refused by
-- 29 or 14, is accepted, its piece is that piece, and its text is read as that piece again"
pub record TextKept (p : Piece) (manner : ℕ) (old : List ℕ) (r : ℕ) (new : List ℕ) : Type 0 where
  pub file : WritesFile (file_of (manner_numbered manner) p) old r new
  pub accepted : (r' : ℕ) → number_of r ≡ 0 → CheckCall (take (length_of r) new) r' → r' ≡ 0
  pub piece : number_of r ≡ 0 → read_file (take (length_of r) new) ≡ ok p []
  pub text : (other : List ℕ) (r' : ℕ) (new' : List ℕ) → number_of r ≡ 0 → TextCall (take (length_of r) new) other r' new' → Writes (text_of p) other r' new'
  pub again : piece_of_text (text_of p) ≡ ok p []

-- a text that has a piece and is not too long for text_to_file
pub record Taken (s : List ℕ) (p : Piece) : Type 0 where
  pub piece : piece_of_text s ≡ ok p []
  pub short : length s ≤ text_limit

-- for every accepted file and for every text that has a piece; and a call that answers number 0 had such a file, such a text
pub record Demand2 : Type 0 where
  pub file : (f : List ℕ) (p : Piece) (old : List ℕ) (r : ℕ) (new : List ℕ) → LaidOut f p → length f ≤ file_limit → TextCall f old r new → FileKept p old r new
  pub text : (s : List ℕ) (p : Piece) (manner : ℕ) (old : List ℕ) (r : ℕ) (new : List ℕ) → Bytes s → Taken s p → manner ≤ 1 → FileCall s manner old r new → TextKept p manner old r new
  pub from_file : (f old : List ℕ) (r : ℕ) (new : List ℕ) → Bytes f → TextCall f old r new → number_of r ≡ 0 → (p : Piece) × LaidOut f p × (length f ≤ file_limit)
  pub from_text : (s : List ℕ) (manner : ℕ) (old : List ℕ) (r : ℕ) (new : List ℕ) → FileCall s manner old r new → number_of r ≡ 0 → (manner ≤ 1) × ((p : Piece) × Taken s p)
