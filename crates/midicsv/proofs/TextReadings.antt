-- Texts and what reading them answers, computed from the definitions.
use mathlib.Core.Path.{refl}
use Rattle.event.specs.Choice.{pick}
use Rattle.event.specs.Outcome.{and_then, check}
use Rattle.event.specs.Meta.{kind_of}
use Rattle.event.specs.Event.{is_end}
use Rattle.event.specs.Reader.{key_of}
use Rattle.midicsv.specs.Table.{event_spelled, spelled, event_shape, shape}
use Rattle.midicsv.specs.Result.{next, test}
use Rattle.midicsv.specs.ReadField.{is_blank, is_digit, is_letter, skip, push, read_digits, read_number, negative, is_octal, read_quoted, read_name, at_comma, finish, field_of, read_field, onward, read_fields, all_fields}
use Rattle.midicsv.specs.Names.{lower, same_name, find, name_from}
use Rattle.smf.specs.Division.{rate_ok, in_range, division_of, division_ok}
use Rattle.smf.specs.Piece.{tracks_fit}
use Rattle.midicsv.specs.ReadRecord.{size_of, counted, same_bytes, is_free, read_signed, read_column, read_bytes, read_text, read_tail, read_columns, together, with_values, record_of, of_fields, read_line}
use Rattle.midicsv.specs.KindOf.{kind_named}
use Rattle.midicsv.specs.Lines.{onto, lines_of, trimmed, is_comment, passed_over}
use Rattle.midicsv.specs.Order.{take_header, take_start, take_end, after_event, take_event, step_on, step}
use Rattle.midicsv.specs.PieceOfText.{framed, tell_line, step_told, advance, ended, run_lines, piece_told, piece_of_text}
use Rattle.midicsv.specs.TextReadings.{AllAnswered, text_readings}

pub all_answered : AllAnswered text_readings
unfolding AllAnswered piece_of_text piece_told run_lines lines_of onto tell_line framed trimmed passed_over is_comment skip is_blank pick step_told advance next read_line of_fields all_fields read_fields read_field field_of and_then check read_quoted push is_octal read_number read_digits is_digit negative read_name is_letter finish at_comma onward record_of name_from find same_name lower spelled event_spelled counted shape event_shape size_of test read_signed division_ok division_of in_range rate_ok read_column read_columns read_tail read_text read_bytes same_bytes is_free kind_of with_values together tracks_fit step step_on take_header take_start take_event take_end after_event is_end kind_named key_of ended
all_answered =
    (refl, (refl, (refl, (refl, (refl, (refl, (refl, (refl, (refl, (refl, (refl, (refl, (refl, (refl, (refl, (refl, (refl, (refl, (refl, (refl, (refl, (refl, (refl, (refl, (refl, (refl, (refl, (refl, (refl, (refl, (refl, (refl, (refl, (refl, (refl, (refl, (refl, (refl, (refl, (refl, (refl, (refl, (refl, (refl, (refl, (refl, (refl, (refl, (refl, (refl, (refl, (refl, (refl, (refl, (refl, (refl, (refl, tt)))))))))))))))))))))))))))))))))))))))))))))))))))))))))
