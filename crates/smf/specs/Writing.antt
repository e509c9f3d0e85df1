-- The answers of what writes a file: "After these .. 29, 14".
use Rattle.std.specs.Prelude.{ℕ, ◌&&◌, List, ◌++◌, length, drop, leb}
use Rattle.event.specs.Choice.{pick}
use Rattle.event.specs.Manner.{short}
use Rattle.event.specs.Outcome.{Outcome, ok, refused}
use Rattle.smf.specs.Piece.{Piece}
use Rattle.smf.specs.Manner.{file_of}
use Rattle.smf.specs.Reader.{file_limit}
use Rattle.smf.specs.Answer.{success, refusal, room_needed}
use Rattle.smf.specs.declared.Answer.{Answer}

-- writing a file of n bytes into a room: 29 "written file would pass 1,048,576 bytes", 14 "lent room too small"
unfoldable pub write_answer : ℕ → ℕ → Answer
write_answer room n = pick (leb n file_limit) (pick (leb n room) (success n) (room_needed n)) (refusal 29 0)

-- what the room holds afterwards: the bytes, "lent bytes past it stay"; on a refusal what it held
unfoldable pub write_leaves : List ℕ → List ℕ → List ℕ
write_leaves bytes old = pick (leb (length bytes) file_limit && leb (length bytes) (length old)) (bytes ++ drop (length bytes) old) old

-- ---- an operation that reads a file, makes a piece of it and writes that in manner 1: tidying (of the piece itself), folding

-- the answer, for a room of so many bytes and the piece made, or the refusal that came before it
unfoldable pub short_answer : ℕ → Outcome Piece → Answer
short_answer room (ok p r) = write_answer room (length (file_of short p))
short_answer room (refused n q) = refusal n q

-- what the room holds afterwards: the manner 1 file; on a refusal what it held
unfoldable pub short_leaves : Outcome Piece → List ℕ → List ℕ
short_leaves (ok p r) old = write_leaves (file_of short p) old
short_leaves (refused n q) old = old
