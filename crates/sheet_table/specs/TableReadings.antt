-- Saved tables and the texts that they are, by the rules of docs/SPREADSHEET.md.
use Rattle.std.specs.Prelude.{◌≡◌, ℕ, List, [], ◌∷◌}
use Rattle.midicsv.specs.Field.{bytes}
use Rattle.sheet_table.specs.Table.{table_text}

-- a saved table, and its text
pub record TableReading : Type 0 where
  pub table : List ℕ
  pub text : List ℕ

-- every table of the list has its text
unfoldable pub AllTold : List TableReading → Type 0
AllTold [] = Unit {0}
AllTold (x ∷ xs) = (table_text x.table ≡ x.text) × AllTold xs

-- a table of ASCII
abbrev reads : List ℕ → List ℕ → TableReading
reads a b = record { table = a; text = b }

-- the table
abbrev pub table_readings : List TableReading
table_readings =
    reads [] []
    -- CR LF, and no end of the last line; empty cells at the end are dropped
    ∷ reads (bytes "0,0,Header,0,1,96\r\n1,0,Start_track,,,") (bytes "0,0,Header,0,1,96\n1,0,Start_track\n")
    -- a byte order mark, semicolons, a text without quotes, an empty text, an empty row
    ∷ reads (239 ∷ 187 ∷ 191 ∷ bytes "\"0\";0;Header;0;1;96\n1;0;Lyric_t;jah, amen;;\n1;0;Lyric_t;;;\n1;0;Lyric_t\n;;;;;\n")
    (bytes "0,0,Header,0,1,96\n1,0,Lyric_t,\"jah, amen\"\n1,0,Lyric_t,\"\"\n1,0,Lyric_t,\"\"\n\n")
    -- tabs
    ∷ reads (bytes "0\t0\tHeader\t0\t1\t96\n1\t0\tKey_signature\t-3\tminor\t\n") (bytes "0,0,Header,0,1,96\n1,0,Key_signature,-3,\"minor\"\n")
    -- a line in one cell, a text as to-text writes it, a remark
    ∷ reads (bytes "\"1,0,Lyric_t,\"\"Hal-\"\"\"\n1, 0, Title_t, \"A\"\"\"\n# x, \"y\n") (bytes "1,0,Lyric_t,\"Hal-\"\n1, 0, Title_t,\"A\"\"\"\n# x, \"y\n")
    -- refused: a quote that is not closed, a number with a comma, a row without Track
    ∷ reads (bytes "0;0;Header\n1;0;Lyric_t;\"a\nb\";\n1;0;Tempo;500,000\n;0;Lyric_t;a\n")
    (bytes "0,0,Header\n\"\n\"b\"\"\"\n1,0,Tempo,\"500,000\"\n,0,Lyric_t,\"a\"\n")
    ∷ []
