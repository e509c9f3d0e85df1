-- The worked example, computed from the definitions.
use mathlib.Core.Path.{◌≡◌, refl}
use mathlib.Core.List.{[], ◌∷◌, ◌++◌}
use lib.ListN.{replicate}
use Rattle.event.specs.Choice.{pick}
use Rattle.event.specs.Bytes.{bytes_onto, big_endian, number, horner}
use Rattle.event.specs.Number.{vlq, least}
use Rattle.event.specs.Meta.{kind_of}
use Rattle.event.specs.Event.{is_end}
use Rattle.event.specs.Frame.{frame, after}
use Rattle.event.specs.Layout.{lay_channel, lay_frame, lay_event}
use Rattle.event.specs.Outcome.{and_then, check, placed}
use Rattle.event.specs.Reader.{read_more, read_vlq, read_data, read_number, data_byte, one_data, two_data, one_byte, channel_data, is_channel, length_ok, value_ok, meta_data, read_meta_of, read_meta, read_frame, kind2, meta_of, kind_in, read_event}
use Rattle.event.specs.Manner.{status_in, rest_in, spell_event}
use Rattle.smf.specs.Layout.{lay_chunk, lay_chunks, lay_events, lay_track, lay_tracks, lay_division, lay_header, lay_piece}
use Rattle.smf.specs.Manner.{spell_events, spell_tracks, spelling, file_of}
use Rattle.smf.specs.Division.{rate_ok, in_range, bits, division_of, division_ok}
use Rattle.smf.specs.Piece.{tracks_fit}
use Rattle.smf.specs.Step.{last_time}
use Rattle.smf.specs.Listing.{end_times}
use Rattle.smf.specs.Reader.{ended, go_on, read_events, read_all, read_head, find_track, read_chunk, read_track, read_tracks, count_ok, read_header, pass_over, read_behind, read_piece, read_file}
use Rattle.smf.specs.Answer.{success, refusal, room_needed}
use Rattle.smf.specs.Walk.{behind, walk_on, stepped, walked, walked_body, placed_of}
use Rattle.smf.specs.PlacedFile.{found_track, placed_tracks, placed_after, placed_file}
use Rattle.smf.specs.Writing.{write_answer, write_leaves, short_answer, short_leaves}
use Rattle.fold_piece.specs.Fold.{others, joined, insert, by_time, greatest, folded_track, folded_piece}
use Rattle.fold_piece.specs.FoldAnswer.{is_prefix_or_port, track_free, tracks_free, several_free, fold_tested, fold_outcome, fold_answer, fold_leaves, last_placed, ends_shown, rows_leave, place_shown, time_shown, status_shown}
use Rattle.fold_piece.specs.Example.{two_tracks, one_track, with_prefix, format_two}

pub record WorkedFold : Type 0 where
  pub answer : fold_answer 37 2 two_tracks ≡ success 37
  pub room : fold_leaves 2 two_tracks (replicate 38 7) ≡ one_track ++ (7 ∷ [])
  pub places : rows_leave place_shown (fold_outcome 3 two_tracks) (placed_file two_tracks) (7 ∷ 7 ∷ 7 ∷ []) ≡ 29 ∷ 45 ∷ 7 ∷ []
  pub times : rows_leave time_shown (fold_outcome 3 two_tracks) (placed_file two_tracks) (7 ∷ 7 ∷ 7 ∷ []) ≡ 96 ∷ 144 ∷ 7 ∷ []
  pub statuses : rows_leave status_shown (fold_outcome 3 two_tracks) (placed_file two_tracks) (7 ∷ 7 ∷ 7 ∷ []) ≡ 0 ∷ 0 ∷ 7 ∷ []
  pub short_room : fold_answer 36 2 two_tracks ≡ room_needed 37
  pub few_rows : fold_answer 37 1 two_tracks ≡ refusal 37 10
  pub prefix : fold_answer 37 2 with_prefix ≡ refusal 33 38
  pub format_2 : fold_answer 37 2 format_two ≡ refusal 32 8

pub worked_fold : WorkedFold
unfolding read_file read_piece read_tracks read_track read_chunk find_track read_head read_header read_number read_data number horner count_ok tracks_fit rate_ok in_range bits division_of division_ok read_behind pass_over read_all read_events read_event go_on ended is_end and_then check placed pick read_vlq read_more read_frame channel_data is_channel one_data two_data data_byte read_meta read_meta_of meta_data one_byte after kind_of length_ok value_ok kind_in kind2 meta_of frame big_endian bytes_onto file_of spelling spell_tracks spell_events spell_event rest_in status_in least lay_piece lay_header lay_division lay_tracks lay_track lay_chunks lay_chunk lay_events lay_event lay_frame lay_channel vlq last_time end_times behind walk_on stepped walked walked_body placed_of found_track placed_tracks placed_after placed_file write_answer write_leaves short_answer short_leaves others joined insert by_time greatest folded_track folded_piece is_prefix_or_port track_free tracks_free several_free fold_tested fold_outcome last_placed ends_shown rows_leave
worked_fold =
    record {
      answer = refl;
      room = refl;
      places = refl;
      times = refl;
      statuses = refl;
      short_room = refl;
      few_rows = refl;
      prefix = refl;
      format_2 = refl;
    }
