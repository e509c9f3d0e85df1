-- Empty rows, quoted or not, become lines that are passed over.
use mathlib.Core.Path.{◌≡◌, refl, ap, ◌∙◌}
use Prim.Native.Nat.{ℕ}
use mathlib.Core.Bool.{Bool, true, false}
use mathlib.Core.List.{List, [], ◌∷◌}
use Rattle.event.specs.Choice.{pick}
use Rattle.event.proofs.ChoiceLaws.{pick_true, pick_false}
use Rattle.midicsv.specs.Result.{good}
use Rattle.midicsv.specs.ReadField.{skip}
use Rattle.midicsv.specs.PieceOfText.{skipped, tell_line}
use Rattle.sheet_table.specs.Cut.{has, blank_beside, skip_beside, begins, opening, cut_from, cut, is_none}
use Rattle.sheet_table.specs.Table.{is_empty, all_empty, keep_before, drop_empty, requote, plain_cells, text_at, row_fields, joined, row_line, of_cut, is_remark, line_by, cells_line, table_line}
use Rattle.sheet_table.specs.Ways.{Separator, comma, semicolon, tab, sep_byte, saved_cell, saved_extra, empty_row}
use Rattle.sheet_table.specs.Code.Cells.{cons_cell}
use Rattle.sheet_table.proofs.CutLaws.{Clean}
use Rattle.sheet_table.proofs.AnyKeptLaws.{empty_passed, tell_passed}
use Rattle.sheet_table.proofs.SavedRowLaws.{parts, cell_cut, empties, follows_extra, extra_cut}

-- ---- nothing, a separator or a quote begins them

none_remark : (sep : ℕ) → is_remark sep [] ≡ false
unfolding is_remark skip_beside begins
none_remark sep = refl

sep_remark : (s : Separator) (l : List ℕ) → is_remark (sep_byte s) (sep_byte s ∷ l) ≡ false
unfolding is_remark skip_beside begins blank_beside sep_byte pick
sep_remark comma l = refl
sep_remark semicolon l = refl
sep_remark tab l = refl

quote_remark : (sep : ℕ) (l : List ℕ) → is_remark sep (34 ∷ l) ≡ false
unfolding is_remark skip_beside begins blank_beside pick
quote_remark sep l = refl

extra_remark : (s : Separator) (qs : List Bool) → is_remark (sep_byte s) (saved_extra (sep_byte s) qs) ≡ false
unfolding saved_extra
extra_remark s [] = none_remark (sep_byte s)
extra_remark s (q ∷ qs) = sep_remark s _

empty_remark : (s : Separator) (qs : List Bool) → is_remark (sep_byte s) (empty_row (sep_byte s) qs) ≡ false
unfolding empty_row saved_cell has requote pick
empty_remark s [] = none_remark (sep_byte s)
empty_remark s (true ∷ qs) = quote_remark (sep_byte s) _
empty_remark s (false ∷ qs) = extra_remark s qs

-- ---- nothing is left of them

all_empty_lem : (qs : List Bool) → all_empty (empties qs) ≡ true
unfolding all_empty empties is_empty is_none skip
all_empty_lem [] = refl
all_empty_lem (q ∷ qs) = all_empty_lem qs

empty_line : line_by row_line 44 [] ≡ []
unfolding line_by is_remark skip_beside begins pick of_cut cut cut_from opening row_line text_at row_fields plain_cells drop_empty keep_before is_empty is_none skip joined
empty_line = refl

nothing_left : (qs : List Bool) → cells_line ([] ∷ empties qs) ≡ []
unfolding cells_line
nothing_left qs = pick_true _ _ (all_empty_lem qs) ∙ empty_line

none_cut : (sep : ℕ) → cut sep [] ≡ good ([] ∷ [])
unfolding cut cut_from opening skip_beside begins pick
none_cut sep = refl

-- the empty cells after the first
others : List Bool → List Bool
others [] = []
others (q ∷ qs) = qs

empty_cut : (s : Separator) (qs : List Bool) → cut (sep_byte s) (empty_row (sep_byte s) qs) ≡ good ([] ∷ empties (others qs))
unfolding empty_row Clean cons_cell others empties
empty_cut s [] = none_cut (sep_byte s)
empty_cut s (q ∷ qs) = cell_cut (sep_byte s) q [] (saved_extra (sep_byte s) qs) (parts s) tt (follows_extra (sep_byte s) qs) ∙ ap (cons_cell []) (extra_cut (sep_byte s) qs (parts s))

empty_gone : (s : Separator) (qs : List Bool) → table_line (sep_byte s) (empty_row (sep_byte s) qs) ≡ []
unfolding table_line line_by of_cut
empty_gone s qs = pick_false _ _ (empty_remark s qs) ∙ ap (of_cut cells_line) (empty_cut s qs) ∙ nothing_left (others qs)

pub empty_told : (s : Separator) (qs : List Bool) → tell_line (table_line (sep_byte s) (empty_row (sep_byte s) qs)) ≡ skipped
empty_told s qs = ap tell_line (empty_gone s qs) ∙ tell_passed [] empty_passed
