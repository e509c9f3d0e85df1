-- THE law of the bridge: however a spreadsheet saves the table of a piece, the text of that table is read as that piece.
use mathlib.Core.Path.{◌≡◌, refl, sym, ap, ◌∙◌}
use Prim.Native.Nat.{ℕ, suc}
use mathlib.Core.Bool.{Bool, false, ◌||◌}
use mathlib.Core.List.{List, [], ◌∷◌, ◌++◌, append-nil}
use Rattle.event.specs.Choice.{pick}
use Rattle.event.specs.Outcome.{ok}
use Rattle.event.proofs.ChoiceLaws.{by_test, pick_false}
use Rattle.event.proofs.OutcomeLaws.{not_ok}
use Rattle.smf.specs.Piece.{Piece, LawfulPiece}
use Rattle.smf.specs.Layout.{LaidOut}
use Rattle.midicsv.specs.Show.{as_sheet}
use Rattle.midicsv.specs.Record.{Record, record_fields, record_line}
use Rattle.midicsv.specs.Text.{header_record, piece_records}
use Rattle.midicsv.specs.Result.{good, next}
use Rattle.midicsv.specs.ReadRecord.{read_line}
use Rattle.midicsv.specs.Order.{State, first, between, inside, finished, step}
use Rattle.midicsv.specs.PieceOfText.{skipped, told, tell_line, step_told, advance, ended, run_lines, piece_told, piece_of_text}
use Rattle.midicsv.proofs.AllLaws.{All}
use Rattle.midicsv.proofs.LayableLaws.{LayableTracks, tracks_layable}
use Rattle.midicsv.proofs.OrderLaws.{run_records, piece_run}
use Rattle.midicsv.proofs.RecordReadLaws.{Sound, fields_good, line_back, record_printable}
use Rattle.midicsv.proofs.TextReadLaws.{AllSound, piece_sound}
use Rattle.sheet_table.specs.Cut.{has, cut}
use Rattle.sheet_table.specs.Table.{requote, row_line, of_cut, line_by, cells_line, table_line, sep_in, table_text}
use Rattle.sheet_table.specs.Ways.{Separator, comma, semicolon, tab, sep_byte, RowWay, saved_row, saved_rows, wrapped_row, wrapped_rows, Layout, in_cells, in_one_cell, table_rows, layout_sep, Way, empty_lines, with_ends, order_mark, saved}
use Rattle.sheet_table.specs.Code.Cells.{cells_after, cons_cell}
use Rattle.sheet_table.proofs.CutLaws.{parts_comma, Follows, requoted_cut}
use Rattle.sheet_table.proofs.TableLinesLaws.{list_pick, requote_in}
use Rattle.sheet_table.proofs.RecordKeptLaws.{line_kept}
use Rattle.sheet_table.proofs.AnyKeptLaws.{one_alone, line_cells, read_line_lem, row_told, advance_ok, advance_on}
use Rattle.sheet_table.proofs.SavedRowLaws.{parts, row_read}
use Rattle.sheet_table.proofs.SavedBytesLaws.{row_all, empty_all, Lined, printable_lined, fields_lined, Opens, requote_opens, row_opens, wrapped_opens, opens_remark}
use Rattle.sheet_table.proofs.TableEndsLaws.{AllLined, lined_return, each_line, saved_lines}
use Rattle.sheet_table.proofs.EmptyRowLaws.{empty_told}
use Rattle.sheet_table.proofs.SepFoundLaws.{cells_sep, wrapped_sep}

-- ---- lines that tell the records, and then none

unfoldable Tells : List (List ℕ) → List Record → Type 0
Tells [] [] = Unit {0}
Tells [] (r ∷ rs) = ⊥
Tells (l ∷ ls) [] = (tell_line l ≡ skipped) × Tells ls []
Tells (l ∷ ls) (r ∷ rs) = (tell_line l ≡ told (good r)) × Tells ls rs

-- the end is the end on any line
ended_later : (s : State) (n m : ℕ) (p : Piece) → ended s n ≡ ok p [] → ended s m ≡ ok p []
unfolding ended
ended_later first n m p e = not_ok e
ended_later (between h ts) n m p e = not_ok e
ended_later (inside h ts es t) n m p e = not_ok e
ended_later (finished q) n m p e = e

told_run : (ls : List (List ℕ)) (rs : List Record) (s : State) (n : ℕ) (p : Piece) → Tells ls rs → run_records rs s n ≡ ok p [] → run_lines tell_line ls s n ≡ ok p []
unfolding Tells run_lines run_records step_told next advance
told_run [] [] s n p t e = e
told_run [] (r ∷ rs) s n p t e = absurd t
told_run (l ∷ ls) [] s n p t e =
    ap (λ m. advance (step_told s m) n (λ u. run_lines tell_line ls u (suc n))) t.0 ∙ told_run ls [] s (suc n) p t.1 (ended_later s n (suc n) p e)
told_run (l ∷ ls) (r ∷ rs) s n p t e =
    ap (λ m. advance (step_told s m) n (λ u. run_lines tell_line ls u (suc n))) t.0
    ∙ advance_ok (step s r) n _ p [] e (λ u q z. advance_on (step s r) n _ u q ∙ told_run ls rs u (suc n) p t.1 z)

-- ---- rows of which the table makes lines that are read as the records

record RowOf (sep : ℕ) (l : List ℕ) (r : Record) : Type 0 where
  lined : All Lined l
  opens : Opens l
  reads : read_line (table_line sep l) ≡ good r

unfoldable RowsOf : ℕ → List (List ℕ) → List Record → Type 0
RowsOf sep [] [] = Unit {0}
RowsOf sep [] (r ∷ rs) = ⊥
RowsOf sep (l ∷ ls) [] = ⊥
RowsOf sep (l ∷ ls) (r ∷ rs) = RowOf sep l r × RowsOf sep ls rs

sep_lined : (s : Separator) → Lined (sep_byte s)
unfolding sep_byte
sep_lined comma = (refl, refl)
sep_lined semicolon = (refl, refl)
sep_lined tab = (refl, refl)

module _ (s : Separator) (es : List (List Bool)) where
  abbrev with_empty : List (List ℕ) → List (List ℕ)
  with_empty ls = ls ++ empty_lines (sep_byte s) es

  empties_lined : (qss : List (List Bool)) → AllLined (empty_lines (sep_byte s) qss)
  unfolding empty_lines AllLined
  empties_lined [] = tt
  empties_lined (qs ∷ qss) = (empty_all Lined (refl, refl) (sep_byte s) (sep_lined s) qs, empties_lined qss)

  rows_lined : (ls : List (List ℕ)) (rs : List Record) → RowsOf (sep_byte s) ls rs → AllLined (with_empty ls)
  unfolding RowsOf AllLined
  rows_lined [] rs w = empties_lined es
  rows_lined (l ∷ ls) [] w = absurd w
  rows_lined (l ∷ ls) (r ∷ rs) w = (w.0.lined, rows_lined ls rs w.1)

  empties_tell : (qss : List (List Bool)) → Tells (each_line (sep_byte s) (empty_lines (sep_byte s) qss)) []
  unfolding each_line empty_lines Tells
  empties_tell [] = tt
  empties_tell (qs ∷ qss) = (empty_told s qs, empties_tell qss)

  rows_tell : (ls : List (List ℕ)) (rs : List Record) → RowsOf (sep_byte s) ls rs → Tells (each_line (sep_byte s) (with_empty ls)) rs
  unfolding RowsOf each_line Tells
  rows_tell [] [] w = empties_tell es
  rows_tell [] (r ∷ rs) w = absurd w
  rows_tell (l ∷ ls) [] w = absurd w
  rows_tell (l ∷ ls) (r ∷ rs) w = (row_told (sep_byte s) l r (lined_return l w.0.lined) w.0.reads, rows_tell ls rs w.1)

  -- the first row tells the separator
  unfoldable Found : List (List ℕ) → Type 0
  Found [] = ⊥
  Found (l ∷ ls) = sep_in l ≡ sep_byte s

  rows_read : (b ca le : Bool) (ls : List (List ℕ)) (rs : List Record) (p : Piece) → RowsOf (sep_byte s) ls rs → Found ls → run_records rs first 1 ≡ ok p []
      → piece_of_text (table_text (order_mark b ++ with_ends ca le (with_empty ls))) ≡ ok p []
  unfolding Found RowsOf piece_of_text piece_told
  rows_read b ca le [] rs p w k e = absurd k
  rows_read b ca le (l ∷ ls) [] p w k e = absurd w
  rows_read b ca le (l ∷ ls) (r ∷ rs) p w k e =
      ap (λ z. run_lines tell_line z first 1) (saved_lines b ca le (sep_byte s) l (with_empty ls) w.0.opens k (rows_lined (l ∷ ls) (r ∷ rs) w))
      ∙ told_run (each_line (sep_byte s) (with_empty (l ∷ ls))) (r ∷ rs) first 1 p (rows_tell (l ∷ ls) (r ∷ rs) w) e

-- ---- the cells of each record in a row

saved_row_lem : (s : Separator) (qs xs : List Bool) (r : Record) → Sound r → RowOf (sep_byte s) (saved_row (sep_byte s) qs xs (record_fields r)) r
saved_row_lem s qs xs r a =
    let o = row_opens (sep_byte s) qs xs r a in
    record {
      lined = row_all Lined (refl, refl) (sep_byte s) (sep_lined s) qs xs (record_fields r) (fields_lined (record_fields r) (fields_good r a));
      opens = o;
      reads = row_read (sep_byte s) qs xs r (parts s) a (opens_remark (sep_byte s) _ o);
    }

saved_rows_lem : (s : Separator) (ws : List RowWay) (rs : List Record) → AllSound rs → RowsOf (sep_byte s) (saved_rows (sep_byte s) ws rs) rs
unfolding saved_rows RowsOf AllSound
saved_rows_lem s ws [] a = tt
saved_rows_lem s [] (r ∷ rs) a = (saved_row_lem s [] [] r a.0, saved_rows_lem s [] rs a.1)
saved_rows_lem s (w ∷ ws) (r ∷ rs) a = (saved_row_lem s w.quoted w.extra r a.0, saved_rows_lem s ws rs a.1)

saved_found : (s : Separator) (es : List (List Bool)) (ws : List RowWay) (p : Piece) → LawfulPiece p → Found s es (saved_rows (sep_byte s) ws (piece_records p))
unfolding saved_rows piece_records Found
saved_found s es [] p l = cells_sep s [] [] p l
saved_found s es (w ∷ ws) p l = cells_sep s w.quoted w.extra p l

-- ---- each line in one cell

one_cell : (l : List ℕ) → cut 44 (requote l) ≡ good (l ∷ [])
unfolding cells_after cons_cell Follows
one_cell l = ap (cut 44) (sym (append-nil (requote l))) ∙ requoted_cut 44 l [] parts_comma tt

-- any line that is read may stand in quotes
quoted_line : (l : List ℕ) (r : Record) → read_line l ≡ good r → read_line (table_line 44 (requote l)) ≡ good r
unfolding table_line line_by of_cut
quoted_line l r e =
    ap read_line (pick_false _ _ (opens_remark 44 (requote l) (requote_opens l)) ∙ ap (of_cut cells_line) (one_cell l) ∙ one_alone l ∙ line_cells row_line l r e)
    ∙ (line_kept l r e).back

wrapped_line : (q : Bool) (l : List ℕ) (r : Record) → read_line l ≡ good r → read_line (table_line 44 (wrapped_row q l)) ≡ good r
unfolding wrapped_row pick
wrapped_line q l r e = by_test (q || has 34 l) (λ t. rw t (quoted_line l r e)) (λ t. rw t (read_line_lem l r e))

wrapped_lined : (q : Bool) (l : List ℕ) → All Lined l → All Lined (wrapped_row q l)
unfolding wrapped_row
wrapped_lined q l a = list_pick Lined _ _ _ (requote_in Lined (refl, refl) l a) a

wrapped_row_lem : (q : Bool) (r : Record) → Sound r → RowOf 44 (wrapped_row q (record_line as_sheet r)) r
wrapped_row_lem q r a =
    record {
      lined = wrapped_lined q (record_line as_sheet r) (printable_lined (record_line as_sheet r) (record_printable as_sheet r a));
      opens = wrapped_opens q r a;
      reads = wrapped_line q (record_line as_sheet r) r (line_back as_sheet r a);
    }

wrapped_rows_lem : (qs : List Bool) (rs : List Record) → AllSound rs → RowsOf 44 (wrapped_rows qs rs) rs
unfolding wrapped_rows RowsOf AllSound
wrapped_rows_lem qs [] a = tt
wrapped_rows_lem [] (r ∷ rs) a = (wrapped_row_lem false r a.0, wrapped_rows_lem [] rs a.1)
wrapped_rows_lem (q ∷ qs) (r ∷ rs) a = (wrapped_row_lem q r a.0, wrapped_rows_lem qs rs a.1)

header_sep : (q : Bool) (p : Piece) → Sound (header_record p) → sep_in (wrapped_row q (record_line as_sheet (header_record p))) ≡ 44
header_sep q p a = wrapped_sep q (record_line as_sheet (header_record p)) (line_kept (record_line as_sheet (header_record p)) (header_record p) (line_back as_sheet (header_record p) a)).comma

wrapped_found : (es : List (List Bool)) (qs : List Bool) (p : Piece) → AllSound (piece_records p) → Found comma es (wrapped_rows qs (piece_records p))
unfolding wrapped_rows piece_records AllSound Found sep_byte
wrapped_found es [] p a = header_sep false p a.0
wrapped_found es (q ∷ qs) p a = header_sep q p a.0

-- ---- every way of saving

module _ (f : List ℕ) (p : Piece) (w : Way) (l : LaidOut f p) where
  layable : LayableTracks p.tracks
  layable = tracks_layable p.tracks l.spelling.tracks l.has.lawful.tracks l.has.permitted.tracks

  sound : AllSound (piece_records p)
  sound = piece_sound p l.has.lawful layable

  -- saved in this way, but with that layout
  abbrev saved_in : Layout → List ℕ
  saved_in y = order_mark w.marked ++ with_ends w.carriage w.last_end (table_rows y (piece_records p) ++ empty_lines (layout_sep y) w.empty_rows)

  -- a cell for each field
  cells_read : (s : Separator) (ws : List RowWay) → w.layout ≡ in_cells s ws → piece_of_text (table_text (saved w p)) ≡ ok p []
  unfolding saved table_rows layout_sep
  cells_read s ws e =
      ap (λ y. piece_of_text (table_text (saved_in y))) e
      ∙ rows_read s w.empty_rows w.marked w.carriage w.last_end (saved_rows (sep_byte s) ws (piece_records p)) (piece_records p) p
      (saved_rows_lem s ws (piece_records p) sound) (saved_found s w.empty_rows ws p l.has.lawful) (piece_run p 1 l.has.lawful.division layable)

  -- a cell for each line
  pub wrapped_read : (qs : List Bool) → w.layout ≡ in_one_cell qs → piece_of_text (table_text (saved w p)) ≡ ok p []
  unfolding saved table_rows layout_sep sep_byte
  wrapped_read qs e =
      ap (λ y. piece_of_text (table_text (saved_in y))) e
      ∙ rows_read comma w.empty_rows w.marked w.carriage w.last_end (wrapped_rows qs (piece_records p)) (piece_records p) p
      (wrapped_rows_lem qs (piece_records p) sound) (wrapped_found w.empty_rows qs p sound) (piece_run p 1 l.has.lawful.division layable)

  layout_read : (y : Layout) → w.layout ≡ y → piece_of_text (table_text (saved w p)) ≡ ok p []
  layout_read (in_cells s ws) e = cells_read s ws e
  layout_read (in_one_cell qs) e = wrapped_read qs e

-- for every piece that has a layout, and every way of saving its table
pub saved_read : (f : List ℕ) (p : Piece) (w : Way) → LaidOut f p → piece_of_text (table_text (saved w p)) ≡ ok p []
saved_read f p w l = layout_read f p w l w.layout refl
