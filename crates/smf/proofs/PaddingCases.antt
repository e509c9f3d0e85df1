-- Request 8's file, computed from the definitions: the sums of its tracks.
use mathlib.Core.Path.{◌≡◌, refl}
use Rattle.event.specs.Choice.{pick}
use Rattle.event.specs.Bytes.{number, horner}
use Rattle.event.specs.Number.{least}
use Rattle.event.specs.Meta.{kind_of}
use Rattle.event.specs.Event.{is_end}
use Rattle.event.specs.Frame.{frame, after}
use Rattle.event.specs.Outcome.{and_then, check, value_or}
use Rattle.event.specs.Reader.{read_more, read_vlq, read_data, read_number, data_byte, two_data, channel_data, is_channel, length_ok, value_ok, meta_data, read_meta_of, read_meta, read_frame, kind2, meta_of, kind_in, read_event, one_byte}
use Rattle.event.specs.Padding.{padding_in, vlq_padding, meta_padding, frame_padding, rest_of, event_padding}
use Rattle.smf.specs.Division.{in_range, division_of, division_ok}
use Rattle.smf.specs.Piece.{tracks_fit}
use Rattle.smf.specs.Reader.{read_chunk, count_ok, read_header, read_head, find_track}
use Rattle.smf.specs.Padding.{events_padding, all_padding, tracks_padding, paddings}
use Rattle.smf.specs.PaddingCases.{padded_file, padded_sums}

pub padded_file_lem : paddings padded_file ≡ padded_sums
unfolding paddings tracks_padding all_padding events_padding event_padding frame_padding meta_padding rest_of vlq_padding padding_in least read_header read_number read_data number horner count_ok tracks_fit in_range division_of division_ok read_head find_track read_chunk read_event is_end and_then check value_or pick read_vlq read_more read_frame channel_data is_channel two_data data_byte read_meta read_meta_of meta_data one_byte after kind_of length_ok value_ok kind_in kind2 meta_of frame
padded_file_lem = refl
