-- Records: Track, Time, name and the values of the name's fields; and the record of each kind of event.
use Rattle.std.specs.Prelude.{ℕ, ◌-◌, List, [], ◌∷◌, length, ltb, eqb}
use Rattle.event.specs.Choice.{pick}
use Rattle.event.specs.Event.{Kind, note_off, note_on, poly_aftertouch, control, program, channel_aftertouch, pitch_bend, system_exclusive, system_exclusive_packet, sequence_number, text, channel_prefix, midi_port, end_track, tempo, smpte_offset, time_signature, key_signature, sequencer_specific, unknown_meta}
use Rattle.event.specs.Frame.{key_byte}
use Rattle.midicsv.specs.Field.{bytes, Field, num, minus, name, quoted}
use Rattle.midicsv.specs.Show.{Form, line_of}
use Rattle.midicsv.specs.Table.{EventName, note_off_name, note_on_name, poly_aftertouch_name, control_change_name, program_change_name, channel_aftertouch_name, pitch_bend_name, system_exclusive_name, system_exclusive_packet_name, sequence_number_name, words, channel_prefix_name, midi_port_name, end_track_name, set_tempo_name, smpte_offset_name, time_signature_name, key_signature_name, sequencer_specific_name, unknown_meta_name, RecordName, spelled, Column, range, key, mode, free_type, division, Tail, none, one_text, sized, shape}

-- the numbers of the columns, and the bytes of the Text or Data
pub record Values : Type 0 where
  pub columns : List ℕ
  pub body : List ℕ

-- "Record and fields after Track, Time", with these two
pub record Record : Type 0 where
  pub track : ℕ
  pub time : ℕ
  pub name : RecordName
  pub values : Values

-- ---- how a record is written

-- a number from what it is in a file: from first on it is below 0, and all more
unfoldable pub signed_field : ℕ → ℕ → ℕ → Field
signed_field first all n = pick (ltb n first) (num n) (minus (all - n))

-- "−7..7", from the byte; "`major` (0) or `minor` (1)"; "the 16 bits read as signed"
unfoldable pub column_field : Column → ℕ → Field
column_field (range lo hi) n = num n
column_field key b = signed_field 8 256 b
column_field mode m = pick (eqb m 0) (quoted (bytes "major")) (quoted (bytes "minor"))
column_field free_type t = num t
column_field division n = signed_field 32768 65536 n

-- "Data..": a number for each byte
unfoldable pub data_fields : List ℕ → List Field
data_fields [] = []
data_fields (b ∷ d) = num b ∷ data_fields d

-- "Length is the number of the data bytes"
unfoldable pub tail_fields : Tail → List ℕ → List Field
tail_fields none d = []
tail_fields one_text d = quoted d ∷ []
tail_fields sized d = num (length d) ∷ data_fields d

-- the fields after the name: those of the columns, then those of the tail
unfoldable pub fields_of : List Column → Tail → List ℕ → List ℕ → List Field
fields_of [] t ns d = tail_fields t d
fields_of (c ∷ cs) t [] d = []
fields_of (c ∷ cs) t (n ∷ ns) d = column_field c n ∷ fields_of cs t ns d

-- Track, Time, name, then the fields of the name's shape
abbrev pub record_fields : Record → List Field
record_fields r =
    num r.track ∷ num r.time ∷ name (spelled r.name)
    ∷ fields_of (shape r.name).columns (shape r.name).tail r.values.columns r.values.body

-- the line of a record
unfoldable pub record_line : Form → Record → List ℕ
record_line w r = line_of w (record_fields r)

-- ---- the record of an event

-- the row of document 01's table
unfoldable pub name_of : Kind → EventName
name_of (note_off c k v) = note_off_name
name_of (note_on c k v) = note_on_name
name_of (poly_aftertouch c k v) = poly_aftertouch_name
name_of (control c k v) = control_change_name
name_of (program c p) = program_change_name
name_of (channel_aftertouch c v) = channel_aftertouch_name
name_of (pitch_bend c v) = pitch_bend_name
name_of (system_exclusive d) = system_exclusive_name
name_of (system_exclusive_packet d) = system_exclusive_packet_name
name_of (sequence_number n) = sequence_number_name
name_of (text t d) = words t
name_of (channel_prefix n) = channel_prefix_name
name_of (midi_port n) = midi_port_name
name_of end_track = end_track_name
name_of (tempo n) = set_tempo_name
name_of (smpte_offset h m s f u) = smpte_offset_name
name_of (time_signature n d c b) = time_signature_name
name_of (key_signature k m) = key_signature_name
name_of (sequencer_specific d) = sequencer_specific_name
name_of (unknown_meta t d) = unknown_meta_name

-- values without Text or Data
abbrev pub plain : List ℕ → Values
plain ns = record { columns = ns; body = [] }

-- values with Text or Data
abbrev pub bulk : List ℕ → List ℕ → Values
bulk ns d = record { columns = ns; body = d }

-- "Record and fields after Track, Time", in the order of the row
unfoldable pub values_of : Kind → Values
values_of (note_off c k v) = plain (c ∷ k ∷ v ∷ [])
values_of (note_on c k v) = plain (c ∷ k ∷ v ∷ [])
values_of (poly_aftertouch c k v) = plain (c ∷ k ∷ v ∷ [])
values_of (control c k v) = plain (c ∷ k ∷ v ∷ [])
values_of (program c p) = plain (c ∷ p ∷ [])
values_of (channel_aftertouch c v) = plain (c ∷ v ∷ [])
values_of (pitch_bend c v) = plain (c ∷ v ∷ [])
values_of (system_exclusive d) = bulk [] d
values_of (system_exclusive_packet d) = bulk [] d
values_of (sequence_number n) = plain (n ∷ [])
values_of (text t d) = bulk [] d
values_of (channel_prefix n) = plain (n ∷ [])
values_of (midi_port n) = plain (n ∷ [])
values_of end_track = plain []
values_of (tempo n) = plain (n ∷ [])
values_of (smpte_offset h m s f u) = plain (h ∷ m ∷ s ∷ f ∷ u ∷ [])
values_of (time_signature n d c b) = plain (n ∷ d ∷ c ∷ b ∷ [])
values_of (key_signature k m) = plain (key_byte k ∷ m ∷ [])
values_of (sequencer_specific d) = bulk [] d
values_of (unknown_meta t d) = bulk (t ∷ []) d
