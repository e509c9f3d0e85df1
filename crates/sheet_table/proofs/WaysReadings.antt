-- The worked example and a film division: the sheet form, two ways of saving it, and the texts of the saved tables, computed from the definitions.
use mathlib.Core.Path.{◌≡◌, refl}
use mathlib.Core.List.{◌++◌}
use Rattle.event.specs.Choice.{pick}
use Rattle.event.specs.Outcome.{and_then, check}
use Rattle.smf.specs.Division.{frames, bits}
use Rattle.smf.specs.DivisionCases.{film_piece}
use Rattle.smf.specs.Example.{example_piece}
use Rattle.midicsv.specs.Field.{bytes, digits_of, decimal}
use Rattle.midicsv.specs.Spell.{octal, or_octal, is_mark, is_solid, stands_inside, stands_last, unblanked, listed, is_truth, spell_rest, spell_short, spell_text}
use Rattle.midicsv.specs.Show.{gap, spell_in, quote, show, further, line_of}
use Rattle.midicsv.specs.Table.{event_spelled, spelled, event_shape, shape}
use Rattle.midicsv.specs.Record.{signed_field, column_field, data_fields, tail_fields, fields_of, record_line, name_of, values_of}
use Rattle.midicsv.specs.Text.{event_record, event_records, track_records, header_record, piece_records, records_text, written_as, sheet_of}
use Rattle.midicsv.specs.TruthWords.{truth_words}
use Rattle.midicsv.specs.ReadField.{is_blank, is_digit, is_letter, skip, push, read_digits, read_number, negative, read_quoted, read_name, at_comma, finish, field_of, read_field}
use Rattle.midicsv.specs.Names.{lower, same_name, find, name_from}
use Rattle.midicsv.specs.Lines.{onto, lines_of, trimmed, is_comment, passed_over}
use Rattle.sheet_table.specs.Cut.{has, blank_beside, skip_beside, begins, opening, on_cell, new_cell, cut_from, cut, is_none}
use Rattle.sheet_table.specs.Table.{is_empty, all_empty, keep_before, drop_empty, doubled, requote, plain_cell, plain_cells, fields_to, text_from, text_of_name, name_in, text_at, row_fields, further_joined, joined, row_line, of_cut, is_remark, line_by, cells_line, table_line, sep_in, sep_of, unmarked, table_lines, table_of, table_text}
use Rattle.sheet_table.specs.Ways.{sep_byte, cell_of, saved_cell, saved_extra, saved_further, saved_row, saved_rows, wrapped_row, wrapped_rows, table_rows, layout_sep, empty_row, empty_lines, line_end, with_ends, order_mark, saved}
use Rattle.sheet_table.specs.WaysReadings.{example_sheet, film_sheet, example_way, example_saved, wrapped_way, wrapped_saved}

pub record SavedExample : Type 0 where
  pub sheet : sheet_of example_piece ≡ example_sheet
  pub film : sheet_of (film_piece (frames 25 40)) ≡ film_sheet
  pub cells : saved example_way example_piece ≡ example_saved
  pub wrapped : saved wrapped_way example_piece ≡ wrapped_saved

pub saved_example : SavedExample
unfolding written_as records_text piece_records header_record track_records event_records event_record record_line line_of further show gap quote spell_in spell_text spell_short spell_rest or_octal octal is_mark is_solid stands_inside stands_last unblanked listed is_truth truth_words same_name lower is_letter decimal digits_of spelled event_spelled shape event_shape signed_field column_field data_fields tail_fields fields_of name_of values_of saved order_mark with_ends line_end empty_lines empty_row layout_sep table_rows wrapped_rows wrapped_row saved_rows saved_row saved_further saved_extra saved_cell cell_of sep_byte requote doubled has is_none pick bits
saved_example = record { sheet = refl; film = refl; cells = refl; wrapped = refl }

-- the text of each saved table is the sheet form again, and an empty line for each empty row
pub record ExampleBack : Type 0 where
  pub cells : table_text example_saved ≡ example_sheet ++ bytes "\n"
  pub wrapped : table_text wrapped_saved ≡ example_sheet ++ bytes "\n\n"
  pub film : table_text film_sheet ≡ film_sheet

pub example_back : ExampleBack
unfolding table_text table_of table_lines unmarked sep_of sep_in table_line cells_line line_by is_remark of_cut row_line joined further_joined row_fields text_at name_in text_of_name text_from fields_to plain_cells plain_cell requote doubled drop_empty keep_before all_empty is_empty is_none cut cut_from new_cell on_cell opening begins skip_beside blank_beside has passed_over is_comment trimmed lines_of onto name_from find same_name lower read_field field_of finish at_comma read_name read_quoted negative read_number read_digits push skip is_letter is_digit is_blank shape event_shape spelled event_spelled and_then check pick
example_back = record { cells = refl; wrapped = refl; film = refl }
