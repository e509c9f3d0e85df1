-- The ways in which a spreadsheet saves the table of a piece (docs/SPREADSHEET.md, "The ways of saving").
use Rattle.std.specs.Prelude.{ℕ, Bool, true, false, ◌||◌, List, [], ◌∷◌, ◌++◌}
use Rattle.event.specs.Choice.{pick}
use Rattle.smf.specs.Piece.{Piece}
use Rattle.midicsv.specs.Field.{decimal, Field, num, minus, name, quoted}
use Rattle.midicsv.specs.Spell.{spell_text}
use Rattle.midicsv.specs.Show.{as_sheet}
use Rattle.midicsv.specs.Record.{Record, record_fields, record_line}
use Rattle.midicsv.specs.Text.{piece_records}
use Rattle.sheet_table.specs.Cut.{has, is_none}
use Rattle.sheet_table.specs.Table.{requote}

-- ---- rows of cells

-- what stands between cells
pub data Separator : Type 0 where
  comma semicolon tab : Separator

-- its byte
unfoldable pub sep_byte : Separator → ℕ
sep_byte comma = 44
sep_byte semicolon = 59
sep_byte tab = 9

-- what stands in the cell of a field: of a text what is between its quotes
unfoldable pub cell_of : Field → List ℕ
cell_of (num n) = decimal n
cell_of (minus n) = 45 ∷ decimal n
cell_of (name s) = s
cell_of (quoted d) = spell_text d

-- a cell with the separator or a quote in it is quoted, any other where the program likes
unfoldable pub saved_cell : ℕ → Bool → List ℕ → List ℕ
saved_cell sep q c = pick (q || (has sep c || has 34 c)) (requote c) c

-- for each cell whether it is quoted though it need not be (a cell beyond the list is not), and the empty cells after the last, quoted or not
pub record RowWay : Type 0 where
  pub quoted : List Bool
  pub extra : List Bool

-- further empty cells
unfoldable pub saved_extra : ℕ → List Bool → List ℕ
saved_extra sep [] = []
saved_extra sep (q ∷ qs) = sep ∷ (saved_cell sep q [] ++ saved_extra sep qs)

-- further cells, then the empty ones
unfoldable pub saved_further : ℕ → List Bool → List Bool → List Field → List ℕ
saved_further sep qs xs [] = saved_extra sep xs
saved_further sep [] xs (f ∷ fs) = sep ∷ (saved_cell sep false (cell_of f) ++ saved_further sep [] xs fs)
saved_further sep (q ∷ qs) xs (f ∷ fs) = sep ∷ (saved_cell sep q (cell_of f) ++ saved_further sep qs xs fs)

-- a row
unfoldable pub saved_row : ℕ → List Bool → List Bool → List Field → List ℕ
saved_row sep qs xs [] = []
saved_row sep [] xs (f ∷ fs) = saved_cell sep false (cell_of f) ++ saved_further sep [] xs fs
saved_row sep (q ∷ qs) xs (f ∷ fs) = saved_cell sep q (cell_of f) ++ saved_further sep qs xs fs

-- the rows as lines; rows beyond the list are saved plainly
unfoldable pub saved_rows : ℕ → List RowWay → List Record → List (List ℕ)
saved_rows sep ws [] = []
saved_rows sep [] (r ∷ rs) = saved_row sep [] [] (record_fields r) ∷ saved_rows sep [] rs
saved_rows sep (w ∷ ws) (r ∷ rs) = saved_row sep w.quoted w.extra (record_fields r) ∷ saved_rows sep ws rs

-- ---- whole lines in one cell each

-- a line of the sheet in one cell: quoted where it has a quote in it, or where the program likes
unfoldable pub wrapped_row : Bool → List ℕ → List ℕ
wrapped_row q l = pick (q || has 34 l) (requote l) l

-- each line; those beyond the list are quoted only where they must
unfoldable pub wrapped_rows : List Bool → List Record → List (List ℕ)
wrapped_rows qs [] = []
wrapped_rows [] (r ∷ rs) = wrapped_row false (record_line as_sheet r) ∷ wrapped_rows [] rs
wrapped_rows (q ∷ qs) (r ∷ rs) = wrapped_row q (record_line as_sheet r) ∷ wrapped_rows qs rs

-- ---- the table

-- the cells of each record in a row, or each line in one cell
pub data Layout : Type 0 where
  in_cells : Separator → List RowWay → Layout
  in_one_cell : List Bool → Layout

-- the lines of a piece
unfoldable pub table_rows : Layout → List Record → List (List ℕ)
table_rows (in_cells s ws) rs = saved_rows (sep_byte s) ws rs
table_rows (in_one_cell qs) rs = wrapped_rows qs rs

-- empty rows are saved with that layout's separator
unfoldable pub layout_sep : Layout → ℕ
layout_sep (in_cells s ws) = sep_byte s
layout_sep (in_one_cell qs) = 44

-- a way of saving; empty rows follow those of the piece, each with so many cells, quoted or not
pub record Way : Type 0 where
  pub layout : Layout
  pub empty_rows : List (List Bool)
  pub marked : Bool
  pub carriage : Bool
  pub last_end : Bool

-- an empty row of one cell and more
unfoldable pub empty_row : ℕ → List Bool → List ℕ
empty_row sep [] = []
empty_row sep (q ∷ qs) = saved_cell sep q [] ++ saved_extra sep qs

-- the empty rows as lines
unfoldable pub empty_lines : ℕ → List (List Bool) → List (List ℕ)
empty_lines sep [] = []
empty_lines sep (qs ∷ qss) = empty_row sep qs ∷ empty_lines sep qss

-- the end of a line
unfoldable pub line_end : Bool → List ℕ
line_end true = 13 ∷ 10 ∷ []
line_end false = 10 ∷ []

-- lines with their ends; the last end may be missing, but not where the last line is empty (without its end it is no line)
unfoldable pub with_ends : Bool → Bool → List (List ℕ) → List ℕ
with_ends carriage last_end [] = []
with_ends carriage last_end (l ∷ []) = l ++ pick (last_end || is_none l) (line_end carriage) []
with_ends carriage last_end (l ∷ m ∷ ls) = l ++ (line_end carriage ++ with_ends carriage last_end (m ∷ ls))

-- a byte order mark, EF BB BF
unfoldable pub order_mark : Bool → List ℕ
order_mark true = 239 ∷ 187 ∷ 191 ∷ []
order_mark false = []

-- the table of a piece, saved in this way
unfoldable pub saved : Way → Piece → List ℕ
saved w p =
    order_mark w.marked
    ++ with_ends w.carriage w.last_end (table_rows w.layout (piece_records p) ++ empty_lines (layout_sep w.layout) w.empty_rows)
