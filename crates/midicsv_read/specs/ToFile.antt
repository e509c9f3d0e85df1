-- Text to file: "Text: 30, 21", the refusals of the text, then "28, 29, 14".
use Rattle.std.specs.Prelude.{ℕ, List, length, leb, eqb}
use Rattle.event.specs.Choice.{pick}
use Rattle.event.specs.Manner.{Manner}
use Rattle.event.specs.Outcome.{Outcome, ok, refused}
use Rattle.event_write.specs.Head.{manner_of}
use Rattle.smf.specs.Piece.{Piece}
use Rattle.smf.specs.Manner.{file_of}
use Rattle.smf.specs.Answer.{refusal}
use Rattle.smf.specs.Writing.{write_answer, write_leaves}
use Rattle.smf.specs.declared.Answer.{Answer}
use Rattle.midicsv.specs.PieceOfText.{piece_of_text, text_limit}

-- "0 full .., 1 short"
abbrev pub manner_numbered : ℕ → Manner
manner_numbered n = manner_of (eqb n 1)

-- the file of the text's piece in the manner, or the refusal with its line
unfoldable pub piece_answer : Manner → ℕ → Outcome Piece → Answer
piece_answer m room (ok p r) = write_answer room (length (file_of m p))
piece_answer m room (refused n line) = refusal n line

-- what the room holds afterwards: the file; on a refusal what it held
unfoldable pub piece_leaves : Manner → Outcome Piece → List ℕ → List ℕ
piece_leaves m (ok p r) old = write_leaves (file_of m p) old
piece_leaves m (refused n line) old = old

-- 30 "manner not 0 or 1 (tested first)", 21 "text over 33,554,432 bytes"
unfoldable pub file_answer : List ℕ → ℕ → ℕ → Answer
file_answer text manner room =
    pick (leb manner 1)
    (pick (leb (length text) text_limit) (piece_answer (manner_numbered manner) room (piece_of_text text)) (refusal 21 0))
    (refusal 30 0)

-- what the room holds afterwards
unfoldable pub file_leaves : List ℕ → ℕ → List ℕ → List ℕ
file_leaves text manner old =
    pick (leb manner 1) (pick (leb (length text) text_limit) (piece_leaves (manner_numbered manner) (piece_of_text text) old) old) old
