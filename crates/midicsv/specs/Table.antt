-- The table of records: for each its name, and the fields after Track, Time and name with their ranges. Writing and reading share it.
use Rattle.std.specs.Prelude.{ℕ, List, [], ◌∷◌, get_or}
use Rattle.midicsv.specs.Field.{bytes}

-- the records of events; words t is that of the text of type t, 1..7
pub data EventName : Type 0 where
  note_off_name note_on_name poly_aftertouch_name control_change_name program_change_name channel_aftertouch_name pitch_bend_name : EventName
  system_exclusive_name system_exclusive_packet_name sequence_number_name : EventName
  words : ℕ → EventName
  channel_prefix_name midi_port_name end_track_name set_tempo_name smpte_offset_name time_signature_name key_signature_name sequencer_specific_name unknown_meta_name : EventName

-- "Header", "Start_track", "End_of_file", and the records of events
pub data RecordName : Type 0 where
  header start_track end_of_file : RecordName
  event : EventName → RecordName

-- "FF 01..07: Text_t, Copyright_t, .."
abbrev pub text_names : List (List ℕ)
text_names =
    [] ∷ bytes "Text_t" ∷ bytes "Copyright_t" ∷ bytes "Title_t" ∷ bytes "Instrument_name_t" ∷ bytes "Lyric_t" ∷ bytes "Marker_t" ∷ bytes "Cue_point_t" ∷ []

-- "names spelled as above"
unfoldable pub event_spelled : EventName → List ℕ
event_spelled note_off_name = bytes "Note_off_c"
event_spelled note_on_name = bytes "Note_on_c"
event_spelled poly_aftertouch_name = bytes "Poly_aftertouch_c"
event_spelled control_change_name = bytes "Control_c"
event_spelled program_change_name = bytes "Program_c"
event_spelled channel_aftertouch_name = bytes "Channel_aftertouch_c"
event_spelled pitch_bend_name = bytes "Pitch_bend_c"
event_spelled system_exclusive_name = bytes "System_exclusive"
event_spelled system_exclusive_packet_name = bytes "System_exclusive_packet"
event_spelled sequence_number_name = bytes "Sequence_number"
event_spelled (words t) = get_or text_names t []
event_spelled channel_prefix_name = bytes "Channel_prefix"
event_spelled midi_port_name = bytes "MIDI_port"
event_spelled end_track_name = bytes "End_track"
event_spelled set_tempo_name = bytes "Tempo"
event_spelled smpte_offset_name = bytes "SMPTE_offset"
event_spelled time_signature_name = bytes "Time_signature"
event_spelled key_signature_name = bytes "Key_signature"
event_spelled sequencer_specific_name = bytes "Sequencer_specific"
event_spelled unknown_meta_name = bytes "Unknown_meta_event"

-- "names spelled as above", of all records
unfoldable pub spelled : RecordName → List ℕ
spelled header = bytes "Header"
spelled start_track = bytes "Start_track"
spelled end_of_file = bytes "End_of_file"
spelled (event g) = event_spelled g

-- a number from lo to hi; a key −7..7, kept as its byte in the file; "major" (0) or "minor" (1); a meta type without a name of its own;
-- a division, kept as its 16 bits in the file
pub data Column : Type 0 where
  range : ℕ → ℕ → Column
  key mode free_type division : Column

-- what follows the columns: nothing, a Text, or "Length, Data.."
pub data Tail : Type 0 where
  none one_text sized : Tail

-- the fields of a record after its name
pub record Shape : Type 0 where
  pub columns : List Column
  pub tail : Tail

-- columns alone
abbrev numbers : List Column → Shape
numbers cs = record { columns = cs; tail = none }

-- a Text alone
abbrev a_text : Shape
a_text = record { columns = []; tail = one_text }

-- columns, then "Length, Data.."
abbrev a_length : List Column → Shape
a_length cs = record { columns = cs; tail = sized }

-- a channel and data bytes 0..127
abbrev channel : List Column → Shape
channel cs = numbers (range 0 15 ∷ cs)

-- the second column of document 01's table
unfoldable pub event_shape : EventName → Shape
event_shape note_off_name = channel (range 0 127 ∷ range 0 127 ∷ [])
event_shape note_on_name = channel (range 0 127 ∷ range 0 127 ∷ [])
event_shape poly_aftertouch_name = channel (range 0 127 ∷ range 0 127 ∷ [])
event_shape control_change_name = channel (range 0 127 ∷ range 0 127 ∷ [])
event_shape program_change_name = channel (range 0 127 ∷ [])
event_shape channel_aftertouch_name = channel (range 0 127 ∷ [])
event_shape pitch_bend_name = channel (range 0 16383 ∷ [])
event_shape system_exclusive_name = a_length []
event_shape system_exclusive_packet_name = a_length []
event_shape sequence_number_name = numbers (range 0 65535 ∷ [])
event_shape (words t) = a_text
event_shape channel_prefix_name = numbers (range 0 255 ∷ [])
event_shape midi_port_name = numbers (range 0 255 ∷ [])
event_shape end_track_name = numbers []
event_shape set_tempo_name = numbers (range 1 16777215 ∷ [])
event_shape smpte_offset_name = numbers (range 0 255 ∷ range 0 255 ∷ range 0 255 ∷ range 0 255 ∷ range 0 99 ∷ [])
event_shape time_signature_name = numbers (range 0 255 ∷ range 0 255 ∷ range 0 255 ∷ range 0 255 ∷ [])
event_shape key_signature_name = numbers (key ∷ mode ∷ [])
event_shape sequencer_specific_name = a_length []
event_shape unknown_meta_name = a_length (free_type ∷ [])

-- "`0, 0, Header, format, tracks, division`", with the ranges of the file's header
unfoldable pub shape : RecordName → Shape
shape header = numbers (range 0 2 ∷ range 1 65535 ∷ division ∷ [])
shape start_track = numbers []
shape end_of_file = numbers []
shape (event g) = event_shape g
