-- The text of document 01's worked example.
use Rattle.std.specs.Prelude.{ℕ, List}
use Rattle.midicsv.specs.Field.{bytes}

-- the seven lines that midi2csv writes of the 39 bytes
abbrev pub example_text : List ℕ
example_text =
    bytes "0, 0, Header, 0, 1, 96\n1, 0, Start_track\n1, 0, Title_t, \"A\"\"\"\n1, 0, Note_on_c, 0, 60, 64\n1, 96, Note_on_c, 0, 60, 0\n1, 96, End_track\n0, 0, End_of_file\n"
