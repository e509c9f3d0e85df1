-- The worked example in its sheet form, and as two spreadsheets save it; a film division in its sheet form.
use Rattle.std.specs.Prelude.{ℕ, true, false, List, [], ◌∷◌}
use Rattle.midicsv.specs.Field.{bytes}
use Rattle.sheet_table.specs.Ways.{semicolon, in_cells, in_one_cell, Way}

-- the sheet form of document 01's example piece
abbrev pub example_sheet : List ℕ
example_sheet =
    bytes "0,0,Header,0,1,96\n1,0,Start_track\n1,0,Title_t,\"A\\042\"\n1,0,Note_on_c,0,60,64\n1,96,Note_on_c,0,60,0\n1,96,End_track\n0,0,End_of_file\n"

-- that of 25 frames of 40 ticks and one track of End_track alone
abbrev pub film_sheet : List ℕ
film_sheet = bytes "0,0,Header,0,1,-6360\n1,0,Start_track\n1,0,End_track\n0,0,End_of_file\n"

-- semicolons, a byte order mark, CR LF, an empty row of two cells, no end of the last line; "Header" is quoted, and three empty cells, one of
-- them quoted, follow Start_track
abbrev pub example_way : Way
example_way =
    record {
      layout = in_cells semicolon (record { quoted = false ∷ false ∷ true ∷ []; extra = [] } ∷ record { quoted = []; extra = false ∷ true ∷ false ∷ [] } ∷ []);
      empty_rows = (false ∷ false ∷ []) ∷ [];
      marked = true;
      carriage = true;
      last_end = false;
    }

-- the example, saved in that way
abbrev pub example_saved : List ℕ
example_saved =
    239 ∷ 187 ∷ 191
    ∷ bytes "0;0;\"Header\";0;1;96\r\n1;0;Start_track;;\"\";\r\n1;0;Title_t;A\\042\r\n1;0;Note_on_c;0;60;64\r\n1;96;Note_on_c;0;60;0\r\n1;96;End_track\r\n0;0;End_of_file\r\n;"

-- each line in one cell, the first quoted though it need not be; two empty rows, the second of one quoted cell
abbrev pub wrapped_way : Way
wrapped_way = record { layout = in_one_cell (true ∷ []); empty_rows = [] ∷ (true ∷ []) ∷ []; marked = false; carriage = false; last_end = true }

-- the example, saved in that way
abbrev pub wrapped_saved : List ℕ
wrapped_saved =
    bytes "\"0,0,Header,0,1,96\"\n1,0,Start_track\n\"1,0,Title_t,\"\"A\\042\"\"\"\n1,0,Note_on_c,0,60,64\n1,96,Note_on_c,0,60,0\n1,96,End_track\n0,0,End_of_file\n\n\"\"\n"
