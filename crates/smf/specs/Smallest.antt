-- Document 02, request 10, "Nothing smaller": the manner 1 file is the smallest of its piece's files, and the only one so small. An
-- accepted file is a layout of its piece (Demand3); what is said here holds of every layout, of whatever length.
use Rattle.std.specs.Prelude.{◌≡◌, ℕ, ◌≤◌, List, length}
use Rattle.event.specs.Manner.{short}
use Rattle.smf.specs.Piece.{Piece}
use Rattle.smf.specs.Layout.{LaidOut}
use Rattle.smf.specs.Manner.{file_of}

pub record NothingSmaller : Type 0 where
  -- "for any accepted file the manner 1 file of its piece is never longer"
  pub never_longer : (f : List ℕ) (p : Piece) → LaidOut f p → length (file_of short p) ≤ length f
  -- "an accepted file of that same piece, as long as the manner 1 file, has its very bytes"
  pub very_bytes : (f : List ℕ) (p : Piece) → LaidOut f p → length f ≡ length (file_of short p) → f ≡ file_of short p
