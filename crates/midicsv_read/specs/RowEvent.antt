-- The event of a row as the event side has it, and its bytes. Outside their ranges numbers are cut to their bits, so that the writer
-- is total; of a row that was read nothing is cut (row_kind_lem).
use Rattle.std.specs.Prelude.{ℕ, ◌+◌, ◌%◌, Bool, true, false, List, ◌++◌, length, get_or}
use Rattle.event.specs.Manner.{Manner}
use Rattle.event.specs.Frame.{no_status}
use Rattle.event.specs.declared.EventKind.{EventKind}
use Rattle.event.specs.declared.EventKind.TheVariants.{NoteOff, NoteOn, PolyAftertouch, Control, Program, ChannelAftertouch, PitchBend, SystemExclusive, SystemExclusivePacket, SequenceNumber, Text, ChannelPrefix, MidiPort, EndTrack, Tempo, SmpteOffset, TimeSignature, KeySignature, SequencerSpecific, UnknownMeta}
use Rattle.event_write.specs.Head.{head_bytes}
use Rattle.midicsv.specs.Table.{EventName, note_off_name, note_on_name, poly_aftertouch_name, control_change_name, program_change_name, channel_aftertouch_name, pitch_bend_name, system_exclusive_name, system_exclusive_packet_name, sequence_number_name, words, channel_prefix_name, midi_port_name, end_track_name, set_tempo_name, smpte_offset_name, time_signature_name, key_signature_name, sequencer_specific_name, unknown_meta_name, RecordName, header, start_track, end_of_file, event, shape}
use Rattle.midicsv_record.specs.Name.{name_at}
use Rattle.midicsv_record.specs.declared.Name.{Name}
use Rattle.midicsv_record.specs.Row.{body_in, columns_in}
use Rattle.midicsv_record.specs.declared.Row.{Row}

-- the i-th number as a byte
abbrev byte : List ℕ → ℕ → ℕ
byte v i = get_or v i 0 % 256

-- the event of these numbers, with len data bytes that stand at start
unfoldable pub event_kind : EventName → List ℕ → ℕ → ℕ → EventKind
event_kind note_off_name v start len = NoteOff (byte v 0) (byte v 1) (byte v 2)
event_kind note_on_name v start len = NoteOn (byte v 0) (byte v 1) (byte v 2)
event_kind poly_aftertouch_name v start len = PolyAftertouch (byte v 0) (byte v 1) (byte v 2)
event_kind control_change_name v start len = Control (byte v 0) (byte v 1) (byte v 2)
event_kind program_change_name v start len = Program (byte v 0) (byte v 1)
event_kind channel_aftertouch_name v start len = ChannelAftertouch (byte v 0) (byte v 1)
event_kind pitch_bend_name v start len = PitchBend (byte v 0) (get_or v 1 0 % 65536)
event_kind system_exclusive_name v start len = SystemExclusive start len
event_kind system_exclusive_packet_name v start len = SystemExclusivePacket start len
event_kind sequence_number_name v start len = SequenceNumber (get_or v 0 0)
event_kind (words t) v start len = Text (t % 256) start len
event_kind channel_prefix_name v start len = ChannelPrefix (byte v 0)
event_kind midi_port_name v start len = MidiPort (byte v 0)
event_kind end_track_name v start len = EndTrack
event_kind set_tempo_name v start len = Tempo (get_or v 0 0)
event_kind smpte_offset_name v start len = SmpteOffset (byte v 0) (byte v 1) (byte v 2) (byte v 3) (byte v 4)
event_kind time_signature_name v start len = TimeSignature (byte v 0) (byte v 1) (byte v 2) (byte v 3)
event_kind key_signature_name v start len = KeySignature (byte v 0) (byte v 1)
event_kind sequencer_specific_name v start len = SequencerSpecific start len
event_kind unknown_meta_name v start len = UnknownMeta (byte v 0) start len

-- a record that is no event stands for End_track here; the writer is never asked
unfoldable pub kind_numbered : RecordName → List ℕ → ℕ → ℕ → EventKind
kind_numbered header v start len = EndTrack
kind_numbered start_track v start len = EndTrack
kind_numbered end_of_file v start len = EndTrack
kind_numbered (event g) v start len = event_kind g v start len

-- the records of events
unfoldable pub is_event : RecordName → Bool
is_event header = false
is_event start_track = false
is_event end_of_file = false
is_event (event g) = true

-- how the code parts the names: channel events of three numbers and of two, texts, events with Data, and the rest
abbrev pub part_of : Name → ℕ
part_of Name.NoteOff = 0
part_of Name.NoteOn = 0
part_of Name.PolyAftertouch = 0
part_of Name.Control = 0
part_of Name.Program = 1
part_of Name.ChannelAftertouch = 1
part_of Name.PitchBend = 1
part_of Name.Text = 2
part_of Name.Copyright = 2
part_of Name.Title = 2
part_of Name.InstrumentName = 2
part_of Name.Lyric = 2
part_of Name.Marker = 2
part_of Name.CuePoint = 2
part_of Name.SystemExclusive = 3
part_of Name.SystemExclusivePacket = 3
part_of Name.SequencerSpecific = 3
part_of Name.UnknownMetaEvent = 3
part_of n = 4

-- the event of a row with len data bytes
abbrev pub row_kind : Row → ℕ → EventKind
row_kind r len = kind_numbered (name_at r.name) (columns_in r) r.start len

-- the row's Text or Data, from its line
abbrev pub row_body : List ℕ → Row → List ℕ
row_body l r = body_in (shape (name_at r.name)).tail l r.start r.len

-- its bytes, delta first
abbrev pub row_bytes : Manner → ℕ → ℕ → List ℕ → Row → List ℕ
row_bytes m force delta l r = head_bytes m force delta (row_kind r (length (row_body l r))) ++ row_body l r

-- the status in force after it
unfoldable pub status_after : EventKind → ℕ
status_after (NoteOff c k v) = 0x80 + c % 16
status_after (NoteOn c k v) = 0x90 + c % 16
status_after (PolyAftertouch c k v) = 0xa0 + c % 16
status_after (Control c k v) = 0xb0 + c % 16
status_after (Program c p) = 0xc0 + c % 16
status_after (ChannelAftertouch c v) = 0xd0 + c % 16
status_after (PitchBend c v) = 0xe0 + c % 16
status_after (SystemExclusive start len) = no_status
status_after (SystemExclusivePacket start len) = no_status
status_after (SequenceNumber n) = no_status
status_after (Text t start len) = no_status
status_after (ChannelPrefix n) = no_status
status_after (MidiPort n) = no_status
status_after EndTrack = no_status
status_after (Tempo n) = no_status
status_after (SmpteOffset h m s f u) = no_status
status_after (TimeSignature n d c b) = no_status
status_after (KeySignature k m) = no_status
status_after (SequencerSpecific start len) = no_status
status_after (UnknownMeta t start len) = no_status
