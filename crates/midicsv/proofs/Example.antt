-- The worked example's text, and the edges of decimals and of what is written in octal, computed from the definitions.
use mathlib.Core.Path.{◌≡◌, refl}
use mathlib.Core.List.{[], ◌∷◌, ◌++◌}
use Rattle.event.specs.Choice.{pick}
use Rattle.event.specs.Frame.{key_byte}
use Rattle.smf.specs.Division.{frames, bits}
use Rattle.smf.specs.DivisionCases.{film_piece}
use Rattle.smf.specs.Example.{example_piece}
use Rattle.midicsv.specs.Field.{bytes, digits_of, decimal, in_octal, escape, escape_all}
use Rattle.midicsv.specs.Show.{as_text, gap, spell_in, quote, show, further, line_of}
use Rattle.midicsv.specs.Table.{event_spelled, spelled, event_shape, shape}
use Rattle.midicsv.specs.Record.{signed_field, column_field, data_fields, tail_fields, fields_of, record_line, name_of, values_of}
use Rattle.midicsv.specs.Text.{event_record, event_records, track_records, header_record, piece_records, records_text, written_as, text_of}
use Rattle.midicsv.specs.Example.{example_text}
use Rattle.midicsv.specs.TextReadings.{film_text}

pub record WrittenExample : Type 0 where
  pub whole : text_of example_piece ≡ example_text
  pub film : text_of (film_piece (frames 25 40)) ≡ film_text (bytes "-6360")
  pub octal : quote as_text (0 ∷ 31 ∷ 32 ∷ 34 ∷ 92 ∷ 126 ∷ 127 ∷ 160 ∷ 161 ∷ 255 ∷ []) ≡ bytes "\"\\000\\037 \"\"\\\\~\\177\\240" ++ (161 ∷ 255 ∷ 34 ∷ [])
  pub zero : decimal 0 ≡ bytes "0"
  pub ten : decimal 10 ≡ bytes "10"
  pub largest : decimal 4294967295 ≡ bytes "4294967295"

pub written_example : WrittenExample
unfolding written_as gap spell_in records_text piece_records header_record track_records event_records event_record record_line line_of further show quote escape_all escape in_octal pick decimal digits_of spelled event_spelled shape event_shape signed_field column_field data_fields tail_fields fields_of name_of values_of key_byte bits
written_example = record { whole = refl; film = refl; octal = refl; zero = refl; ten = refl; largest = refl }
