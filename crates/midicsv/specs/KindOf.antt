-- The kind of event that a record has, by its name and values: the rows of document 01's table from right to left.
use Rattle.std.specs.Prelude.{ℕ, get_or}
use Rattle.event.specs.Event.{Kind, note_off, note_on, poly_aftertouch, control, program, channel_aftertouch, pitch_bend, system_exclusive, system_exclusive_packet, sequence_number, text, channel_prefix, midi_port, end_track, tempo, smpte_offset, time_signature, key_signature, sequencer_specific, unknown_meta}
use Rattle.event.specs.Reader.{key_of}
use Rattle.midicsv.specs.Table.{EventName, note_off_name, note_on_name, poly_aftertouch_name, control_change_name, program_change_name, channel_aftertouch_name, pitch_bend_name, system_exclusive_name, system_exclusive_packet_name, sequence_number_name, words, channel_prefix_name, midi_port_name, end_track_name, set_tempo_name, smpte_offset_name, time_signature_name, key_signature_name, sequencer_specific_name, unknown_meta_name}
use Rattle.midicsv.specs.Record.{Values}

-- the i-th number
abbrev nth : Values → ℕ → ℕ
nth v i = get_or v.columns i 0

-- "Record and fields after Track, Time"
unfoldable pub kind_named : EventName → Values → Kind
kind_named note_off_name v = note_off (nth v 0) (nth v 1) (nth v 2)
kind_named note_on_name v = note_on (nth v 0) (nth v 1) (nth v 2)
kind_named poly_aftertouch_name v = poly_aftertouch (nth v 0) (nth v 1) (nth v 2)
kind_named control_change_name v = control (nth v 0) (nth v 1) (nth v 2)
kind_named program_change_name v = program (nth v 0) (nth v 1)
kind_named channel_aftertouch_name v = channel_aftertouch (nth v 0) (nth v 1)
kind_named pitch_bend_name v = pitch_bend (nth v 0) (nth v 1)
kind_named system_exclusive_name v = system_exclusive v.body
kind_named system_exclusive_packet_name v = system_exclusive_packet v.body
kind_named sequence_number_name v = sequence_number (nth v 0)
kind_named (words t) v = text t v.body
kind_named channel_prefix_name v = channel_prefix (nth v 0)
kind_named midi_port_name v = midi_port (nth v 0)
kind_named end_track_name v = end_track
kind_named set_tempo_name v = tempo (nth v 0)
kind_named smpte_offset_name v = smpte_offset (nth v 0) (nth v 1) (nth v 2) (nth v 3) (nth v 4)
kind_named time_signature_name v = time_signature (nth v 0) (nth v 1) (nth v 2) (nth v 3)
kind_named key_signature_name v = key_signature (key_of (nth v 0)) (nth v 1)
kind_named sequencer_specific_name v = sequencer_specific v.body
kind_named unknown_meta_name v = unknown_meta (nth v 0) v.body
