-- The names of records as the code has them.
use Rattle.std.specs.Prelude.{Option, Some, None}
use Rattle.midicsv.specs.Table.{note_off_name, note_on_name, poly_aftertouch_name, control_change_name, program_change_name, channel_aftertouch_name, pitch_bend_name, system_exclusive_name, system_exclusive_packet_name, sequence_number_name, words, channel_prefix_name, midi_port_name, end_track_name, set_tempo_name, smpte_offset_name, time_signature_name, key_signature_name, sequencer_specific_name, unknown_meta_name, RecordName, header, start_track, end_of_file, event}
use Rattle.midicsv.specs.Result.{Result, good, bad}
use Rattle.midicsv_record.specs.declared.Name.{Name}
use Rattle.midicsv_record.specs.declared.Name.TheVariants.{Header, StartTrack, EndOfFile, NoteOff, NoteOn, PolyAftertouch, Control, Program, ChannelAftertouch, PitchBend, SystemExclusive, SystemExclusivePacket, SequenceNumber, Text, Copyright, Title, InstrumentName, Lyric, Marker, CuePoint, ChannelPrefix, MidiPort, EndTrack, Tempo, SmpteOffset, TimeSignature, KeySignature, SequencerSpecific, UnknownMetaEvent}

-- the name in the list of names
abbrev pub name_at : Name → RecordName
name_at Header = header
name_at StartTrack = start_track
name_at EndOfFile = end_of_file
name_at NoteOff = event note_off_name
name_at NoteOn = event note_on_name
name_at PolyAftertouch = event poly_aftertouch_name
name_at Control = event control_change_name
name_at Program = event program_change_name
name_at ChannelAftertouch = event channel_aftertouch_name
name_at PitchBend = event pitch_bend_name
name_at SystemExclusive = event system_exclusive_name
name_at SystemExclusivePacket = event system_exclusive_packet_name
name_at SequenceNumber = event sequence_number_name
name_at Text = event (words 1)
name_at Copyright = event (words 2)
name_at Title = event (words 3)
name_at InstrumentName = event (words 4)
name_at Lyric = event (words 5)
name_at Marker = event (words 6)
name_at CuePoint = event (words 7)
name_at ChannelPrefix = event channel_prefix_name
name_at MidiPort = event midi_port_name
name_at EndTrack = event end_track_name
name_at Tempo = event set_tempo_name
name_at SmpteOffset = event smpte_offset_name
name_at TimeSignature = event time_signature_name
name_at KeySignature = event key_signature_name
name_at SequencerSpecific = event sequencer_specific_name
name_at UnknownMetaEvent = event unknown_meta_name

-- none is no listed name: 23
unfoldable pub name_as : Option Name → Result RecordName
name_as (Some n) = good (name_at n)
name_as None = bad 23
