-- The slips are ruled out: two refusals of status, one of length, one of a kind that no piece may hold, and the note that stays a note.
use mathlib.Core.Path.{◌≡◌, refl}
use Prim.Native.Nat.{ℕ}
use mathlib.Core.List.{List}
use native.Mathlib.Omega.{arith}
use Rattle.event.specs.Choice.{pick}
use Rattle.event.specs.Bytes.{number, horner}
use Rattle.event.specs.Meta.{kind_of}
use Rattle.event.specs.Event.{is_end, Fits, unknown_meta, note_on}
use Rattle.event.specs.Frame.{frame, after, channel2}
use Rattle.event.specs.Outcome.{and_then, check, placed}
use Rattle.event.specs.Reader.{read_more, read_vlq, read_data, read_number, data_byte, one_data, two_data, one_byte, channel_data, is_channel, length_ok, value_ok, meta_data, read_meta_of, read_meta, read_frame, kind2, meta_of, kind_in, read_event}
use Rattle.smf.specs.Division.{rate_ok, in_range, division_of, division_ok}
use Rattle.smf.specs.Piece.{tracks_fit}
use Rattle.smf.specs.Reader.{ended, go_on, read_events, read_all, read_chunk, read_track, read_tracks, count_ok, read_header, read_head, find_track, pass_over, read_behind, read_piece, read_file}
use Rattle.smf.specs.Slips.{AllRefused, slips}

pub all_refused : AllRefused slips
unfolding AllRefused read_file read_piece read_tracks read_track read_chunk read_header read_number read_data number horner count_ok tracks_fit rate_ok in_range division_of division_ok read_head find_track pass_over read_behind read_all read_events read_event go_on ended is_end and_then check placed pick read_vlq read_more read_frame channel_data is_channel one_data two_data data_byte read_meta read_meta_of meta_data one_byte after kind_of length_ok value_ok kind_in kind2 meta_of frame
all_refused = (refl, (refl, (refl, tt)))

-- "Unknown_meta_event 47 written, ending a track early": no piece holds one
pub no_unknown_47 : (d : List ℕ) → Fits (unknown_meta 47 d) → ⊥
unfolding Fits kind_of
no_unknown_47 d h = let z : ◌≡◌ {A = ℕ} 0 1 = cc h.1 in omega arith

-- "Note_on_c at velocity 0 rewritten as Note_off_c": its bytes are those of Note_on_c
pub silent_note_on : (k : ℕ) → frame (note_on 0 k 0) ≡ channel2 0x90 k 0
unfolding frame
silent_note_on k = refl
