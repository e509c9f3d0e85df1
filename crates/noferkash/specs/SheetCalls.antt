-- The way through a spreadsheet, for calls (docs/SPREADSHEET.md): a file becomes a sheet, a program saves it, what it saved becomes a text, and that a
-- file of the same piece. What a call wrote goes on as the bytes that its number counts in its room: take (length_of r) new.
use Rattle.std.specs.Prelude.{◌≡◌, ℕ, ◌<◌, ◌≤◌, List, length, take}
use Rattle.event.specs.Bytes.{Bytes}
use Rattle.smf.specs.Piece.{Piece}
use Rattle.smf.specs.Layout.{LaidOut}
use Rattle.smf.specs.Manner.{file_of}
use Rattle.smf.specs.Reader.{file_limit}
use Rattle.smf.specs.Answer.{refusal}
use Rattle.midicsv.specs.Text.{sheet_of}
use Rattle.midicsv.specs.PieceOfText.{text_limit}
use Rattle.midicsv_read.specs.ToFile.{manner_numbered}
use Rattle.sheet_table.specs.Table.{table_text}
use Rattle.sheet_table.specs.TableAnswer.{table_limit}
use Rattle.sheet_table.specs.Ways.{Way, saved}
use Rattle.noferkash.specs.Packed.{number_of, length_of, Says}
use Rattle.noferkash.specs.Calls.{FileCall, SheetCall, TableCall}
use Rattle.noferkash.specs.Demand2.{Writes, WritesFile, Taken}

-- noferkash_sheet_to_text on the saved table s: refused only for length (38 of the table, 21 of its text) or room (14), and it succeeds
-- wherever the lengths and the room allow it
pub record WritesTable (s old : List ℕ) (r : ℕ) (new : List ℕ) : Type 0 where
  pub long : table_limit < length s → Says r (refusal 38 0) × (new ≡ old)
  pub long_text : length s ≤ table_limit → text_limit < length (table_text s) → Says r (refusal 21 0) × (new ≡ old)
  pub short : length s ≤ table_limit → length (table_text s) ≤ text_limit → Writes (table_text s) old r new

-- noferkash_sheet_to_text answered r and left new; what it wrote, turned into a file in either manner, is the file of the piece p, refused only for
-- length (29) or room (14)
abbrev pub GivesFile : Piece → ℕ → List ℕ → Type 0
GivesFile p r new =
    (manner : ℕ) (old : List ℕ) (r' : ℕ) (new' : List ℕ) → number_of r ≡ 0 → manner ≤ 1 → FileCall (take (length_of r) new) manner old r' new'
    → WritesFile (file_of (manner_numbered manner) p) old r' new'

pub record SheetCalls : Type 0 where
  -- the sheet of an accepted file's piece, refused only for room (14)
  pub sheet : (f : List ℕ) (p : Piece) (old : List ℕ) (r : ℕ) (new : List ℕ) → LaidOut f p → length f ≤ file_limit → SheetCall f old r new → Writes (sheet_of p) old r new
  -- number 0 comes only for an accepted file
  pub from_file : (f old : List ℕ) (r : ℕ) (new : List ℕ) → Bytes f → SheetCall f old r new → number_of r ≡ 0 → (p : Piece) × LaidOut f p × (length f ≤ file_limit)
  -- any saved table whatever
  pub table : (s old : List ℕ) (r : ℕ) (new : List ℕ) → TableCall s old r new → WritesTable s old r new
  -- the table of an accepted file's piece, saved in any of the ways, gives the file of that piece
  pub kept : (f : List ℕ) (p : Piece) (w : Way) (old : List ℕ) (r : ℕ) (new : List ℕ) → LaidOut f p → TableCall (saved w p) old r new → GivesFile p r new
  -- and so does every text that has a piece
  pub any : (s : List ℕ) (p : Piece) (old : List ℕ) (r : ℕ) (new : List ℕ) → Taken s p → TableCall s old r new → GivesFile p r new
