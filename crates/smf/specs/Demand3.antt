-- Demand 3 of one file as a whole, in one claim: "A file is accepted exactly when some piece with some permitted spelling lays out
-- to its bytes; the piece read is that piece; no file of any length is the layout of two pieces."
use Rattle.std.specs.Prelude.{◌≡◌, ℕ, ◌≤◌, List, ◌↔◌, length}
use Rattle.smf.specs.Piece.{Piece}
use Rattle.smf.specs.Layout.{LaidOut}
use Rattle.smf.specs.Reader.{file_limit}
use Rattle.smf.specs.PieceRead.{piece_read}

-- "Accepted: checking the file answers number 0"; 1 is for a "file over 1,048,576 bytes"
pub record Demand3 (f : List ℕ) (number : ℕ) : Type 0 where
  pub accepted : (number ≡ 0) ↔ ((p : Piece) × LaidOut f p × (length f ≤ file_limit))
  pub piece : (p : Piece) → LaidOut f p → length f ≤ file_limit → piece_read f ≡ p
  pub single : (p q : Piece) → LaidOut f p → LaidOut f q → p ≡ q
