-- An event: its Time, and its kind with the fields of document 01's table; and the ranges of these.
use Rattle.std.specs.Prelude.{◌≡◌, ℕ, ◌<◌, ◌≤◌, Bool, true, false, List}
use Rattle.event.specs.Bytes.{Bytes}
use Rattle.event.specs.Meta.{kind_of, unknown_kind}

-- a Key_signature's key: n sharps is n, n flats is −n
pub data Key : Type 0 where
  sharps flats : ℕ → Key

-- the rows of the table, with "Record and fields after Track, Time"; the seven texts are one row by their type 1..7
pub data Kind : Type 0 where
  note_off note_on poly_aftertouch control : ℕ → ℕ → ℕ → Kind
  program channel_aftertouch pitch_bend : ℕ → ℕ → Kind
  system_exclusive system_exclusive_packet : List ℕ → Kind
  sequence_number : ℕ → Kind
  text : ℕ → List ℕ → Kind
  channel_prefix midi_port : ℕ → Kind
  end_track : Kind
  tempo : ℕ → Kind
  smpte_offset : ℕ → ℕ → ℕ → ℕ → ℕ → Kind
  time_signature : ℕ → ℕ → ℕ → ℕ → Kind
  key_signature : Key → ℕ → Kind
  sequencer_specific : List ℕ → Kind
  unknown_meta : ℕ → List ℕ → Kind

-- "events, each with a Time"
pub record Event : Type 0 where
  pub time : ℕ
  pub kind : Kind

-- "Key_signature: −7..7"
unfoldable pub KeyFits : Key → Type 0
KeyFits (sharps n) = n ≤ 7
KeyFits (flats n) = (1 ≤ n) × (n ≤ 7)

-- the ranges: "Channel data bytes are 0..127, other data 0..255. A channel is the one hex digit n", and those of the rows
unfoldable pub Fits : Kind → Type 0
Fits (note_off c k v) = (c < 16) × (k ≤ 127) × (v ≤ 127)
Fits (note_on c k v) = (c < 16) × (k ≤ 127) × (v ≤ 127)
Fits (poly_aftertouch c k v) = (c < 16) × (k ≤ 127) × (v ≤ 127)
Fits (control c k v) = (c < 16) × (k ≤ 127) × (v ≤ 127)
Fits (program c p) = (c < 16) × (p ≤ 127)
Fits (channel_aftertouch c v) = (c < 16) × (v ≤ 127)
Fits (pitch_bend c v) = (c < 16) × (v < 16384)
Fits (system_exclusive d) = Bytes d
Fits (system_exclusive_packet d) = Bytes d
Fits (sequence_number n) = n ≤ 65535
Fits (text t d) = (1 ≤ t) × (t ≤ 7) × Bytes d
Fits (channel_prefix n) = n ≤ 255
Fits (midi_port n) = n ≤ 255
Fits end_track = Unit {0}
Fits (tempo n) = (1 ≤ n) × (n ≤ 16777215)
Fits (smpte_offset h m s f u) = (h ≤ 255) × (m ≤ 255) × (s ≤ 255) × (f ≤ 255) × (u ≤ 99)
Fits (time_signature n d c b) = (n ≤ 255) × (d ≤ 255) × (c ≤ 255) × (b ≤ 255)
Fits (key_signature k m) = KeyFits k × (m ≤ 1)
Fits (sequencer_specific d) = Bytes d
Fits (unknown_meta t d) = (t ≤ 127) × (kind_of t ≡ unknown_kind) × Bytes d

-- an event after one at the Time prev: "Times never fall along a track and lie in 0..4,294,967,295"
pub record Lawful (prev : ℕ) (e : Event) : Type 0 where
  pub later : prev ≤ e.time
  pub bounded : e.time ≤ 4294967295
  pub fits : Fits e.kind

-- whether it is End_track
unfoldable pub is_end : Kind → Bool
is_end (note_off c k v) = false
is_end (note_on c k v) = false
is_end (poly_aftertouch c k v) = false
is_end (control c k v) = false
is_end (program c p) = false
is_end (channel_aftertouch c v) = false
is_end (pitch_bend c v) = false
is_end (system_exclusive d) = false
is_end (system_exclusive_packet d) = false
is_end (sequence_number n) = false
is_end (text t d) = false
is_end (channel_prefix n) = false
is_end (midi_port n) = false
is_end end_track = true
is_end (tempo n) = false
is_end (smpte_offset h m s f u) = false
is_end (time_signature n d c b) = false
is_end (key_signature k m) = false
is_end (sequencer_specific d) = false
is_end (unknown_meta t d) = false
