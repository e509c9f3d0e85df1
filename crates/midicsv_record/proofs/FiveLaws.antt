-- No record has more than five columns.
use Prim.Native.Nat.{◌≤◌}
use native.Mathlib.Omega.{arith}
use lib.ListN.{length}
use Rattle.midicsv.specs.Table.{EventName, note_off_name, note_on_name, poly_aftertouch_name, control_change_name, program_change_name, channel_aftertouch_name, pitch_bend_name, system_exclusive_name, system_exclusive_packet_name, sequence_number_name, words, channel_prefix_name, midi_port_name, end_track_name, set_tempo_name, smpte_offset_name, time_signature_name, key_signature_name, sequencer_specific_name, unknown_meta_name, RecordName, header, start_track, end_of_file, event, shape, event_shape}

few_of : (g : EventName) → length (event_shape g).columns ≤ 5
unfolding event_shape
few_of note_off_name = omega arith
few_of note_on_name = omega arith
few_of poly_aftertouch_name = omega arith
few_of control_change_name = omega arith
few_of program_change_name = omega arith
few_of channel_aftertouch_name = omega arith
few_of pitch_bend_name = omega arith
few_of system_exclusive_name = omega arith
few_of system_exclusive_packet_name = omega arith
few_of sequence_number_name = omega arith
few_of (words t) = omega arith
few_of channel_prefix_name = omega arith
few_of midi_port_name = omega arith
few_of end_track_name = omega arith
few_of set_tempo_name = omega arith
few_of smpte_offset_name = omega arith
few_of time_signature_name = omega arith
few_of key_signature_name = omega arith
few_of sequencer_specific_name = omega arith
few_of unknown_meta_name = omega arith

pub few_columns : (n : RecordName) → length (shape n).columns ≤ 5
unfolding shape
few_columns header = omega arith
few_columns start_track = omega arith
few_columns end_of_file = omega arith
few_columns (event g) = few_of g
