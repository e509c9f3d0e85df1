-- Request 6's examples, computed from the definitions.
use mathlib.Core.Path.{◌≡◌, refl}
use mathlib.Core.List.{[]}
use Rattle.event.specs.Choice.{pick}
use Rattle.event.specs.Bytes.{bytes_onto, big_endian, number, horner}
use Rattle.event.specs.Number.{vlq, least}
use Rattle.event.specs.Meta.{kind_of}
use Rattle.event.specs.Event.{is_end}
use Rattle.event.specs.Frame.{frame, after}
use Rattle.event.specs.Layout.{lay_channel, lay_frame, lay_event}
use Rattle.event.specs.Outcome.{ok, and_then, check, placed}
use Rattle.event.specs.Reader.{read_more, read_vlq, read_data, read_number, data_byte, one_data, two_data, one_byte, channel_data, is_channel, length_ok, value_ok, meta_data, read_meta_of, read_meta, read_frame, kind2, meta_of, kind_in, read_event}
use Rattle.event.specs.Manner.{short, status_in, rest_in, spell_event}
use Rattle.smf.specs.Manner.{spell_events, spell_tracks, spelling, file_of}
use Rattle.smf.specs.Layout.{lay_events, lay_chunk, lay_chunks, lay_track, lay_tracks, lay_division, lay_header, lay_piece}
use Rattle.smf.specs.Division.{frames, rate_ok, in_range, bits, division_of, division_ok}
use Rattle.smf.specs.Piece.{tracks_fit}
use Rattle.smf.specs.Reader.{ended, go_on, read_events, read_all, read_chunk, read_track, read_tracks, count_ok, read_header, read_head, find_track, pass_over, read_behind, read_piece, read_file}
use Rattle.smf.specs.Slips.{AllRefused}
use Rattle.smf.specs.DivisionCases.{AllDivisions, NoDivisions, divisions, neither, film_piece, film_file, division_refusals}

pub all_divisions : AllDivisions divisions
unfolding AllDivisions bits division_ok division_of in_range rate_ok pick
all_divisions = (refl, refl, refl, (refl, refl, refl, (refl, refl, refl, (refl, refl, refl, (refl, refl, refl, (refl, refl, refl, (refl, refl, refl, tt)))))))

pub no_divisions : NoDivisions neither
unfolding NoDivisions division_ok division_of in_range rate_ok pick
no_divisions = (refl, (refl, (refl, (refl, (refl, (refl, (refl, (refl, (refl, tt)))))))))

pub record FilmExample : Type 0 where
  pub written : file_of short (film_piece (frames 25 40)) ≡ film_file 0xE7 0x28
  pub read : read_file (film_file 0xE7 0x28) ≡ ok (film_piece (frames 25 40)) []
  pub refused : AllRefused division_refusals

pub film_example : FilmExample
unfolding AllRefused read_file read_piece read_tracks read_track read_chunk read_header read_number read_data number horner count_ok tracks_fit rate_ok in_range bits division_of division_ok read_head find_track pass_over read_behind read_all read_events read_event go_on ended is_end and_then check placed pick read_vlq read_more read_frame channel_data is_channel one_data two_data data_byte read_meta read_meta_of meta_data one_byte after kind_of length_ok value_ok kind_in kind2 meta_of frame big_endian bytes_onto file_of spelling spell_tracks spell_events spell_event rest_in status_in least lay_piece lay_header lay_division lay_tracks lay_track lay_chunks lay_chunk lay_events lay_event lay_frame lay_channel vlq
film_example = record { written = refl; read = refl; refused = (refl, (refl, (refl, tt))) }
