-- Request 3's examples, computed from the definitions: the piece with chunks everywhere is laid out and read back, the others are refused.
use mathlib.Core.Path.{◌≡◌, refl}
use mathlib.Core.List.{[]}
use Rattle.event.specs.Choice.{pick}
use Rattle.event.specs.Bytes.{bytes_onto, big_endian, number, horner}
use Rattle.event.specs.Number.{vlq}
use Rattle.event.specs.Meta.{kind_of}
use Rattle.event.specs.Event.{is_end}
use Rattle.event.specs.Frame.{frame, after}
use Rattle.event.specs.Layout.{lay_channel, lay_frame, lay_event}
use Rattle.event.specs.Outcome.{ok, and_then, check, placed}
use Rattle.event.specs.Reader.{read_more, read_vlq, read_data, read_number, data_byte, one_data, two_data, one_byte, channel_data, is_channel, length_ok, value_ok, meta_data, read_meta_of, read_meta, read_frame, kind2, meta_of, kind_in, read_event}
use Rattle.smf.specs.Layout.{lay_events, lay_chunk, lay_chunks, lay_track, lay_tracks, lay_division, lay_header, lay_piece}
use Rattle.smf.specs.Division.{rate_ok, in_range, bits, division_of, division_ok}
use Rattle.smf.specs.Piece.{tracks_fit}
use Rattle.smf.specs.Reader.{ended, go_on, read_events, read_all, read_chunk, read_track, read_tracks, count_ok, read_header, read_head, find_track, pass_over, read_behind, read_piece, read_file}
use Rattle.smf.specs.Slips.{AllRefused}
use Rattle.smf.specs.ChunkCases.{chunk_piece, chunk_spelling, chunk_file, chunk_refusals}

pub record ChunkExample : Type 0 where
  pub laid : lay_piece chunk_piece chunk_spelling ≡ chunk_file
  pub read : read_file chunk_file ≡ ok chunk_piece []
  pub refused : AllRefused chunk_refusals

pub chunk_example : ChunkExample
unfolding AllRefused read_file read_piece read_tracks read_track read_chunk read_header read_number read_data number horner count_ok tracks_fit rate_ok in_range bits division_of division_ok read_head find_track pass_over read_behind read_all read_events read_event go_on ended is_end and_then check placed pick read_vlq read_more read_frame channel_data is_channel one_data two_data data_byte read_meta read_meta_of meta_data one_byte after kind_of length_ok value_ok kind_in kind2 meta_of frame big_endian bytes_onto lay_piece lay_header lay_division lay_tracks lay_track lay_chunks lay_chunk lay_events lay_event lay_frame lay_channel vlq
chunk_example =
    record {
      laid = refl;
      read = refl;
      refused = (refl, (refl, (refl, (refl, (refl, (refl, (refl, (refl, (refl, (refl, (refl, (refl, (refl, (refl, tt))))))))))))));
    }
