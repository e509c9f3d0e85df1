-- File to text, and file to sheet: the reading refusals, then 14 with the length needed.
use Rattle.std.specs.Prelude.{ℕ, List, ◌++◌, length, drop, leb}
use Rattle.event.specs.Choice.{pick}
use Rattle.event.specs.Outcome.{Outcome, ok, refused}
use Rattle.smf.specs.Piece.{Piece}
use Rattle.smf.specs.Answer.{success, refusal, room_needed}
use Rattle.smf.specs.declared.Answer.{Answer}
use Rattle.midicsv.specs.Show.{Form}
use Rattle.midicsv.specs.Text.{written_as}

-- "Success: 0, place 0, the length written"; 14 "gives the length needed, at place 0"
unfoldable pub written_answer : Form → ℕ → Outcome Piece → Answer
written_answer w room (ok p r) = pick (leb (length (written_as w p)) room) (success (length (written_as w p))) (room_needed (length (written_as w p)))
written_answer w room (refused n q) = refusal n q

-- what the room holds afterwards: the text of the piece that was read, or its sheet, "lent bytes past it stay"; on a refusal what it held
unfoldable pub written_leaves : Form → Outcome Piece → List ℕ → List ℕ
written_leaves w (ok p r) old = pick (leb (length (written_as w p)) (length old)) (written_as w p ++ drop (length (written_as w p)) old) old
written_leaves w (refused n q) old = old
