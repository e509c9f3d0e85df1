-- Document 02, request 10, "Nothing smaller", for calls of noferkash_tidy. The tidied file goes on as the bytes that the call's number
-- counts in its room: take (length_of r) new.
use Rattle.std.specs.Prelude.{◌≡◌, ℕ, ◌≤◌, List, length, take}
use Rattle.event.specs.Bytes.{Bytes}
use Rattle.smf.specs.PieceRead.{piece_read}
use Rattle.noferkash.specs.Packed.{number_of, length_of}
use Rattle.noferkash.specs.Calls.{CheckCall, TidyCall}

-- the file f was tidied: the call answered r, which says number 0, and left new
pub record TidyKept (f : List ℕ) (r : ℕ) (new : List ℕ) : Type 0 where
  -- noferkash_check accepts what was written, and its piece is that of f
  pub accepted : CheckCall (take (length_of r) new) 0
  pub piece : piece_read (take (length_of r) new) ≡ piece_read f
  -- "an accepted file of that same piece, as long as the manner 1 file, has its very bytes"
  pub very_bytes : (g : List ℕ) → Bytes g → CheckCall g 0 → piece_read g ≡ piece_read f → length g ≡ length_of r → g ≡ take (length_of r) new
  -- "Tidying twice then equals tidying once": tidied once more, into any room, it answers and leaves what f itself does there
  pub twice : (other : List ℕ) (r' : ℕ) (new' : List ℕ) → TidyCall (take (length_of r) new) other r' new' → TidyCall f other r' new'

pub record TidyCalls : Type 0 where
  -- "for any accepted file the manner 1 file of its piece is never longer": the length that the number says, written (0) or needed (14)
  pub never_longer : (f old : List ℕ) (r : ℕ) (new : List ℕ) → Bytes f → TidyCall f old r new → length_of r ≤ length f
  -- so a room as long as the file is enough
  pub enough : (f old : List ℕ) (r : ℕ) (new : List ℕ) → Bytes f → TidyCall f old r new → length f ≤ length old → number_of r ≡ 14 → ⊥
  -- and of every file that was tidied (a room holds bytes)
  pub kept : (f old : List ℕ) (r : ℕ) (new : List ℕ) → Bytes f → Bytes new → TidyCall f old r new → number_of r ≡ 0 → TidyKept f r new
