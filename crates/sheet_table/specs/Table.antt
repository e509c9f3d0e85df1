-- The text of a saved table, line for line (docs/SPREADSHEET.md, "The saved table: what is read", rules 1 to 6): table_text. It is total; a row that is no record becomes a
-- line that is refused there.
use Rattle.std.specs.Prelude.{ℕ, zero, suc, Bool, true, ◌&&◌, ◌||◌, not, List, [], ◌∷◌, ◌++◌, eqb}
use Rattle.event.specs.Choice.{pick}
use Rattle.event.specs.Outcome.{Outcome, ok, refused}
use Rattle.midicsv.specs.Field.{Field}
use Rattle.midicsv.specs.Table.{RecordName, Column, range, key, mode, free_type, division, Tail, none, one_text, sized, shape}
use Rattle.midicsv.specs.Result.{Result, good, bad}
use Rattle.midicsv.specs.ReadField.{skip, read_field}
use Rattle.midicsv.specs.Names.{name_from}
use Rattle.midicsv.specs.Lines.{lines_of, trimmed, passed_over}
use Rattle.sheet_table.specs.Cut.{has, skip_beside, begins, is_none, cut}

-- ---- empty cells

-- "only spaces and tabs in it, or nothing"
unfoldable pub is_empty : List ℕ → Bool
is_empty c = is_none (skip c)

-- all cells are empty
unfoldable pub all_empty : List (List ℕ) → Bool
all_empty [] = true
all_empty (c ∷ cs) = is_empty c && all_empty cs

-- c in front of cells of which the last is not empty
unfoldable pub keep_before : List ℕ → List (List ℕ) → List (List ℕ)
keep_before c [] = pick (is_empty c) [] (c ∷ [])
keep_before c (d ∷ ds) = c ∷ d ∷ ds

-- without the empty cells at the end
unfoldable pub drop_empty : List (List ℕ) → List (List ℕ)
drop_empty [] = []
drop_empty (c ∷ cs) = keep_before c (drop_empty cs)

-- ---- rule 6: the fields of a row

-- each quote twice
unfoldable pub doubled : List ℕ → List ℕ
doubled [] = []
doubled (c ∷ l) = pick (eqb c 34) (34 ∷ 34 ∷ doubled l) (c ∷ doubled l)

-- in quotes
unfoldable pub requote : List ℕ → List ℕ
requote c = 34 ∷ (doubled c ++ (34 ∷ []))

-- "Plain": "the content as it is; but if it has a comma or a quote in it, in quotes, each quote twice"
unfoldable pub plain_cell : List ℕ → List ℕ
plain_cell c = pick (has 44 c || has 34 c) (requote c) c

-- the same of each cell
unfoldable pub plain_cells : List (List ℕ) → List (List ℕ)
plain_cells [] = []
plain_cells (c ∷ cs) = plain_cell c ∷ plain_cells cs

-- a record with a text cell after so many others: these plain, then the text in quotes ("Is the text cell the first that is missing, the text is empty"), then
-- "Of the cells after it those up to the last that is not empty"
unfoldable pub fields_to : ℕ → List (List ℕ) → List (List ℕ)
fields_to zero [] = requote [] ∷ []
fields_to zero (c ∷ cs) = requote c ∷ plain_cells (drop_empty cs)
fields_to (suc k) [] = []
fields_to (suc k) (c ∷ cs) = plain_cell c ∷ fields_to k cs

-- which cell of a record is in quotes: none, or that after so many others
pub data TextPlace : Type 0 where
  nowhere : TextPlace
  after : ℕ → TextPlace

-- the first field that is a quoted text, of those from the i-th on
unfoldable pub text_from : ℕ → List Column → Tail → TextPlace
text_from i [] none = nowhere
text_from i [] one_text = after i
text_from i [] sized = nowhere
text_from i (range lo hi ∷ cs) t = text_from (suc i) cs t
text_from i (key ∷ cs) t = text_from (suc i) cs t
text_from i (mode ∷ cs) t = after i
text_from i (free_type ∷ cs) t = text_from (suc i) cs t
text_from i (division ∷ cs) t = text_from (suc i) cs t

-- "In the seven texts .. the text cell is the fourth, in Key_signature the fifth, in all others there is none": after Track, Time and name
unfoldable pub text_of_name : Result RecordName → TextPlace
text_of_name (good n) = text_from 3 (shape n).columns (shape n).tail
text_of_name (bad m) = nowhere

-- "if it is nothing but a name as the reader reads it"
unfoldable pub name_in : Outcome Field → Result RecordName
name_in (ok f []) = name_from f
name_in (ok f (c ∷ r)) = bad 23
name_in (refused n p) = bad 23

-- "The third cell's content tells the record"
unfoldable pub text_at : List (List ℕ) → TextPlace
text_at [] = nowhere
text_at (a ∷ []) = nowhere
text_at (a ∷ b ∷ []) = nowhere
text_at (a ∷ b ∷ n ∷ cs) = text_of_name (name_in (read_field n))

-- the fields of a row
unfoldable pub row_fields : TextPlace → List (List ℕ) → List (List ℕ)
row_fields nowhere cs = plain_cells (drop_empty cs)
row_fields (after k) cs = fields_to k cs

-- a comma before each
unfoldable pub further_joined : List (List ℕ) → List ℕ
further_joined [] = []
further_joined (c ∷ cs) = 44 ∷ (c ++ further_joined cs)

-- joined by commas
unfoldable pub joined : List (List ℕ) → List ℕ
joined [] = []
joined (c ∷ cs) = c ++ further_joined cs

-- the line of a row
unfoldable pub row_line : List (List ℕ) → List ℕ
row_line cs = joined (row_fields (text_at cs) cs)

-- ---- rules 3 to 5: a line of the table

-- rule 4: a row that cannot be cut becomes a single quote, which is refused with 22
unfoldable pub of_cut : (List (List ℕ) → List ℕ) → Result (List (List ℕ)) → List ℕ
of_cut f (good cs) = f cs
of_cut f (bad n) = 34 ∷ []

-- rule 3: a line whose first byte after blanks is `#`, or `;` where that does not separate
unfoldable pub is_remark : ℕ → List ℕ → Bool
is_remark sep l = begins 35 (skip_beside sep l) || (begins 59 (skip_beside sep l) && not (eqb sep 59))

-- rule 3, a line that stands as it is; or f of its cells
unfoldable pub line_by : (List (List ℕ) → List ℕ) → ℕ → List ℕ → List ℕ
line_by f sep l = pick (is_remark sep l) l (of_cut f (cut sep l))

-- rule 5: one cell alone, the others empty, holds a whole line, which is cut at commas
unfoldable pub cells_line : List (List ℕ) → List ℕ
cells_line [] = []
cells_line (c ∷ cs) = pick (all_empty cs) (line_by row_line 44 c) (row_line (c ∷ cs))

-- a line of the saved table, without its CR, as a line of a text
unfoldable pub table_line : ℕ → List ℕ → List ℕ
table_line sep l = line_by cells_line sep l

-- ---- rules 1 and 2: the table

-- "a comma if that line has one, else a semicolon if it has one, else a tab if it has one, else a comma"
unfoldable pub sep_in : List ℕ → ℕ
sep_in l = pick (has 44 l) 44 (pick (has 59 l) 59 (pick (has 9 l) 9 44))

-- "in the first line that the reader of texts would not pass over"
unfoldable pub sep_of : List (List ℕ) → ℕ
sep_of [] = 44
sep_of (l ∷ ls) = pick (passed_over (trimmed l)) (sep_of ls) (sep_in (trimmed l))

-- without a byte order mark, EF BB BF
unfoldable pub unmarked : List ℕ → List ℕ
unmarked [] = []
unmarked (a ∷ []) = a ∷ []
unmarked (a ∷ b ∷ []) = a ∷ b ∷ []
unmarked (a ∷ b ∷ c ∷ s) = pick (eqb a 239 && (eqb b 187 && eqb c 191)) s (a ∷ b ∷ c ∷ s)

-- "One CR at the end of a line is dropped. Every line of the text ends in LF"
unfoldable pub table_lines : ℕ → List (List ℕ) → List ℕ
table_lines sep [] = []
table_lines sep (l ∷ ls) = table_line sep (trimmed l) ++ (10 ∷ table_lines sep ls)

-- the lines of a table whose separator its first record tells
unfoldable pub table_of : List (List ℕ) → List ℕ
table_of ls = table_lines (sep_of ls) ls

-- THE text of a saved table
unfoldable pub table_text : List ℕ → List ℕ
table_text s = table_of (lines_of (unmarked s))
