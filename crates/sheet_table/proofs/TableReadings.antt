-- The examples of saved tables, computed from the definitions.
use mathlib.Core.Path.{refl}
use Rattle.event.specs.Choice.{pick}
use Rattle.event.specs.Outcome.{and_then, check}
use Rattle.midicsv.specs.Table.{spelled, event_spelled, shape, event_shape}
use Rattle.midicsv.specs.ReadField.{is_blank, is_digit, is_letter, skip, push, read_digits, read_number, negative, read_quoted, read_name, at_comma, finish, field_of, read_field}
use Rattle.midicsv.specs.Names.{lower, same_name, find, name_from}
use Rattle.midicsv.specs.Lines.{onto, lines_of, trimmed, is_comment, passed_over}
use Rattle.sheet_table.specs.Cut.{has, blank_beside, skip_beside, begins, opening, on_cell, new_cell, cut_from, cut, is_none}
use Rattle.sheet_table.specs.Table.{is_empty, all_empty, keep_before, drop_empty, doubled, requote, plain_cell, plain_cells, fields_to, text_from, text_of_name, name_in, text_at, row_fields, further_joined, joined, row_line, of_cut, is_remark, line_by, cells_line, table_line, sep_in, sep_of, unmarked, table_lines, table_of, table_text}
use Rattle.sheet_table.specs.TableReadings.{AllTold, table_readings}

pub tables_told : AllTold table_readings
unfolding AllTold table_text table_of table_lines unmarked sep_of sep_in table_line cells_line line_by is_remark of_cut row_line joined further_joined row_fields text_at name_in text_of_name text_from fields_to plain_cells plain_cell requote doubled drop_empty keep_before all_empty is_empty is_none cut cut_from new_cell on_cell opening begins skip_beside blank_beside has passed_over is_comment trimmed lines_of onto name_from find same_name lower read_field field_of finish at_comma read_name read_quoted negative read_number read_digits push skip is_letter is_digit is_blank shape event_shape spelled event_spelled and_then check pick
tables_told = (refl, (refl, (refl, (refl, (refl, (refl, tt))))))
