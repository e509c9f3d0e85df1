-- The program midi2csv: "reads standard input (at most 16,384 bytes, else as 1)".
use Rattle.std.specs.Prelude.{ℕ, List, length, leb}
use Rattle.event.specs.Choice.{pick}
use Rattle.smf.specs.Reader.{read_file}
use Rattle.smf.specs.Answer.{refusal}
use Rattle.smf.specs.declared.Answer.{Answer}
use Rattle.midicsv.specs.Show.{as_text}
use Rattle.midicsv_write.specs.ToText.{written_answer, written_leaves}

-- "at most 16,384 bytes"
abbrev pub input_limit : ℕ
input_limit = 16384

-- the answer for a room's length and what was read
unfoldable pub program_answer : ℕ → List ℕ → Answer
program_answer room file = pick (leb (length file) input_limit) (written_answer as_text room (read_file file)) (refusal 1 0)

-- what the room holds afterwards
unfoldable pub program_leaves : List ℕ → List ℕ → List ℕ
program_leaves file old = pick (leb (length file) input_limit) (written_leaves as_text (read_file file) old) old
