-- Saved table to text: 38, 21, 14 (docs/SPREADSHEET.md, "The library").
use Rattle.std.specs.Prelude.{ℕ, ◌&&◌, List, ◌++◌, length, drop, leb}
use Rattle.event.specs.Choice.{pick}
use Rattle.smf.specs.Answer.{success, refusal, room_needed}
use Rattle.smf.specs.declared.Answer.{Answer}
use Rattle.midicsv.specs.PieceOfText.{text_limit}
use Rattle.sheet_table.specs.Table.{table_text}

-- a saved table has at most so many bytes
abbrev pub table_limit : ℕ
table_limit = 268435456

-- 38: the table is too long; 21: its text would be; 14 with the length needed; else the length written
unfoldable pub table_answer : ℕ → List ℕ → Answer
table_answer room s =
    pick (leb (length s) table_limit)
    (pick (leb (length (table_text s)) text_limit)
    (pick (leb (length (table_text s)) room) (success (length (table_text s))) (room_needed (length (table_text s))))
    (refusal 21 0))
    (refusal 38 0)

-- what the room holds afterwards: the text, "lent bytes past it stay"; on a refusal what it held
unfoldable pub table_leaves : List ℕ → List ℕ → List ℕ
table_leaves s old =
    pick (leb (length s) table_limit && (leb (length (table_text s)) text_limit && leb (length (table_text s)) (length old)))
    (table_text s ++ drop (length (table_text s)) old) old
