-- A table's text has a line for each of its rows, made from that row alone; and it has no byte that is neither the row's nor a comma nor a quote.
use mathlib.Core.Path.{◌≡◌, refl, ap, ◌∙◌}
use Prim.Native.Nat.{ℕ, zero, suc}
use mathlib.Core.Bool.{Bool, true, false}
use mathlib.Core.List.{List, [], ◌∷◌}
use lib.ListN.{length}
use lib.Dec.{eqb}
use Rattle.event.specs.Choice.{pick}
use Rattle.event.proofs.ChoiceLaws.{by_test}
use Rattle.midicsv.specs.Lines.{onto, lines_of, trimmed}
use Rattle.midicsv.specs.Result.{Result, good, bad}
use Rattle.midicsv.proofs.AllLaws.{All, all_append}
use Rattle.midicsv.proofs.LineLaws.{NoFeed, lines_feed}
use Rattle.sheet_table.specs.Cut.{blank_beside, Within, bare, lead, quotes, a_quote, closed, opening, on_cell, new_cell, cut_from, cut}
use Rattle.sheet_table.specs.Table.{is_empty, all_empty, keep_before, drop_empty, doubled, requote, plain_cell, plain_cells, fields_to, TextPlace, nowhere, after, text_at, row_fields, further_joined, joined, row_line, of_cut, is_remark, line_by, cells_line, table_line, sep_of, unmarked, table_lines, table_of, table_text}

pub list_pick : (P : ℕ → Type 0) (t : Bool) (x y : List ℕ) → All P x → All P y → All P (pick t x y)
unfolding pick
list_pick P true x y a b = a
list_pick P false x y a b = b

-- ---- a property of the bytes of a cell and of a quote holds in quotes

module _ (P : ℕ → Type 0) (quote : P 34) where
  pub doubled_in : (c : List ℕ) → All P c → All P (doubled c)
  unfolding doubled
  doubled_in [] a = tt
  doubled_in (x ∷ c) a = list_pick P (eqb x 34) _ _ (quote, (quote, doubled_in c a.1)) (a.0, doubled_in c a.1)

  pub requote_in : (c : List ℕ) → All P c → All P (requote c)
  unfolding requote
  requote_in c a = (quote, all_append P (doubled c) (34 ∷ []) (doubled_in c a) (quote, tt))

-- ---- a property of the bytes of a row, of a quote and of a comma holds of the bytes of its line

module _ (P : ℕ → Type 0) (quote : P 34) (comma : P 44) where
  abbrev AllIn : List (List ℕ) → Type 0
  AllIn [] = Unit {0}
  AllIn (c ∷ cs) = All P c × AllIn cs

  abbrev CellsIn : Result (List (List ℕ)) → Type 0
  CellsIn (good cs) = AllIn cs
  CellsIn (bad n) = Unit {0}

  cells_pick : (t : Bool) (x y : Result (List (List ℕ))) → CellsIn x → CellsIn y → CellsIn (pick t x y)
  unfolding pick
  cells_pick true x y a b = a
  cells_pick false x y a b = b

  onto_in : (c : ℕ) (cs : List (List ℕ)) → P c → AllIn cs → AllIn (onto c cs)
  unfolding onto
  onto_in c [] p a = ((p, tt), tt)
  onto_in c (d ∷ ds) p a = ((p, a.0), a.1)

  on_in : (c : ℕ) (m : Result (List (List ℕ))) → P c → CellsIn m → CellsIn (on_cell c m)
  unfolding on_cell
  on_in c (good cs) p a = onto_in c cs p a
  on_in c (bad n) p a = tt

  new_in : (m : Result (List (List ℕ))) → CellsIn m → CellsIn (new_cell m)
  unfolding new_cell
  new_in (good cs) a = (tt, a)
  new_in (bad n) a = tt

  from_in : (sep : ℕ) (l : List ℕ) (w : Within) → All P l → CellsIn (cut_from sep l w)
  unfolding cut_from
  from_in sep [] bare a = (tt, tt)
  from_in sep [] lead a = (tt, tt)
  from_in sep [] quotes a = tt
  from_in sep [] a_quote a = (tt, tt)
  from_in sep [] closed a = (tt, tt)
  from_in sep (c ∷ l) bare a = cells_pick (eqb c sep) _ _ (new_in _ (from_in sep l (opening sep l) a.1)) (on_in c _ a.0 (from_in sep l bare a.1))
  from_in sep (c ∷ l) lead a = cells_pick (eqb c 34) _ _ (from_in sep l quotes a.1) (from_in sep l lead a.1)
  from_in sep (c ∷ l) quotes a = cells_pick (eqb c 34) _ _ (from_in sep l a_quote a.1) (on_in c _ a.0 (from_in sep l quotes a.1))
  from_in sep (c ∷ l) a_quote a =
      cells_pick (eqb c 34) _ _ (on_in 34 _ quote (from_in sep l quotes a.1))
      (cells_pick (eqb c sep) _ _ (new_in _ (from_in sep l (opening sep l) a.1))
      (cells_pick (blank_beside sep c) _ _ (from_in sep l closed a.1) tt))
  from_in sep (c ∷ l) closed a =
      cells_pick (eqb c sep) _ _ (new_in _ (from_in sep l (opening sep l) a.1))
      (cells_pick (blank_beside sep c) _ _ (from_in sep l closed a.1) tt)

  cut_in : (sep : ℕ) (l : List ℕ) → All P l → CellsIn (cut sep l)
  unfolding cut
  cut_in sep l a = from_in sep l (opening sep l) a

  plain_in : (c : List ℕ) → All P c → All P (plain_cell c)
  unfolding plain_cell
  plain_in c a = list_pick P _ _ _ (requote_in P quote c a) a

  plains_in : (cs : List (List ℕ)) → AllIn cs → AllIn (plain_cells cs)
  unfolding plain_cells
  plains_in [] a = tt
  plains_in (c ∷ cs) a = (plain_in c a.0, plains_in cs a.1)

  keep_in : (c : List ℕ) (ds : List (List ℕ)) → All P c → AllIn ds → AllIn (keep_before c ds)
  unfolding keep_before pick
  keep_in c [] p a = by_test (is_empty c) (λ e. rw e tt) (λ e. rw e (p, tt))
  keep_in c (d ∷ ds) p a = (p, a)

  drop_in : (cs : List (List ℕ)) → AllIn cs → AllIn (drop_empty cs)
  unfolding drop_empty
  drop_in [] a = tt
  drop_in (c ∷ cs) a = keep_in c (drop_empty cs) a.0 (drop_in cs a.1)

  to_in : (k : ℕ) (cs : List (List ℕ)) → AllIn cs → AllIn (fields_to k cs)
  unfolding fields_to
  to_in zero [] a = (requote_in P quote [] tt, tt)
  to_in zero (c ∷ cs) a = (requote_in P quote c a.0, plains_in (drop_empty cs) (drop_in cs a.1))
  to_in (suc k) [] a = tt
  to_in (suc k) (c ∷ cs) a = (plain_in c a.0, to_in k cs a.1)

  fields_in_lem : (w : TextPlace) (cs : List (List ℕ)) → AllIn cs → AllIn (row_fields w cs)
  unfolding row_fields
  fields_in_lem nowhere cs a = plains_in (drop_empty cs) (drop_in cs a)
  fields_in_lem (after k) cs a = to_in k cs a

  further_in : (cs : List (List ℕ)) → AllIn cs → All P (further_joined cs)
  unfolding further_joined
  further_in [] a = tt
  further_in (c ∷ cs) a = (comma, all_append P c (further_joined cs) a.0 (further_in cs a.1))

  joined_in : (cs : List (List ℕ)) → AllIn cs → All P (joined cs)
  unfolding joined
  joined_in [] a = tt
  joined_in (c ∷ cs) a = all_append P c (further_joined cs) a.0 (further_in cs a.1)

  row_in : (cs : List (List ℕ)) → AllIn cs → All P (row_line cs)
  unfolding row_line
  row_in cs a = joined_in (row_fields (text_at cs) cs) (fields_in_lem (text_at cs) cs a)

  module _ (f : List (List ℕ) → List ℕ) (h : (cs : List (List ℕ)) → AllIn cs → All P (f cs)) where
    of_in : (m : Result (List (List ℕ))) → CellsIn m → All P (of_cut f m)
    unfolding of_cut
    of_in (good cs) a = h cs a
    of_in (bad n) a = (quote, tt)

    by_in : (sep : ℕ) (l : List ℕ) → All P l → All P (line_by f sep l)
    unfolding line_by
    by_in sep l a = list_pick P (is_remark sep l) _ _ a (of_in (cut sep l) (cut_in sep l a))

  alone_in : (cs : List (List ℕ)) → AllIn cs → All P (cells_line cs)
  unfolding cells_line
  alone_in [] a = tt
  alone_in (c ∷ cs) a = list_pick P (all_empty cs) _ _ (by_in row_line row_in 44 c a.0) (row_in (c ∷ cs) a)

  pub line_all : (sep : ℕ) (l : List ℕ) → All P l → All P (table_line sep l)
  unfolding table_line
  line_all sep l a = by_in cells_line alone_in sep l a

-- ---- one CR less has the same bytes

trimmed_all : (P : ℕ → Type 0) (l : List ℕ) → All P l → All P (trimmed l)
unfolding trimmed
trimmed_all P [] a = tt
trimmed_all P (c ∷ []) a = list_pick P (eqb c 13) _ _ tt a
trimmed_all P (c ∷ d ∷ l) a = (a.0, trimmed_all P (d ∷ l) a.1)

-- ---- the lines

abbrev AllNoFeed : List (List ℕ) → Type 0
AllNoFeed [] = Unit {0}
AllNoFeed (l ∷ ls) = NoFeed l × AllNoFeed ls

onto_feed : (c : ℕ) (ls : List (List ℕ)) → eqb c 10 ≡ false → AllNoFeed ls → AllNoFeed (onto c ls)
unfolding onto
onto_feed c [] e a = ((e, tt), tt)
onto_feed c (l ∷ ls) e a = ((e, a.0), a.1)

no_feed : (s : List ℕ) → AllNoFeed (lines_of s)
unfolding lines_of pick
no_feed [] = tt
no_feed (c ∷ s) = by_test (eqb c 10) (λ e. rw e (tt, no_feed s)) (λ e. rw e (onto_feed c (lines_of s) e (no_feed s)))

-- the line of each row
unfoldable pub each_row : ℕ → List (List ℕ) → List (List ℕ)
each_row sep [] = []
each_row sep (l ∷ ls) = table_line sep (trimmed l) ∷ each_row sep ls

rows_lines : (sep : ℕ) (ls : List (List ℕ)) → AllNoFeed ls → lines_of (table_lines sep ls) ≡ each_row sep ls
unfolding table_lines each_row lines_of
rows_lines sep [] a = refl
rows_lines sep (l ∷ ls) a =
    lines_feed (table_line sep (trimmed l)) (table_lines sep ls) (line_all (λ c. eqb c 10 ≡ false) refl refl sep (trimmed l) (trimmed_all _ l a.0))
    ∙ ap (λ z. table_line sep (trimmed l) ∷ z) (rows_lines sep ls a.1)

-- line n of the text is the line of row n
pub table_lines_lem : (s : List ℕ) → lines_of (table_text s) ≡ each_row (sep_of (lines_of (unmarked s))) (lines_of (unmarked s))
unfolding table_text table_of
table_lines_lem s = rows_lines (sep_of (lines_of (unmarked s))) (lines_of (unmarked s)) (no_feed (unmarked s))

each_count : (sep : ℕ) (ls : List (List ℕ)) → length (each_row sep ls) ≡ length ls
unfolding each_row
each_count sep [] = refl
each_count sep (l ∷ ls) = ap suc (each_count sep ls)

-- there are as many
pub table_count : (s : List ℕ) → length (lines_of (table_text s)) ≡ length (lines_of (unmarked s))
table_count s = ap length (table_lines_lem s) ∙ each_count (sep_of (lines_of (unmarked s))) (lines_of (unmarked s))
