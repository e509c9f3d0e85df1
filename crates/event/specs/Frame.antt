-- The bytes of each row of document 01's table after the delta, by four shapes, and the status that each leaves in force.
use Rattle.std.specs.Prelude.{ℕ, ◌+◌, ◌-◌, ◌/◌, ◌%◌, List, [], ◌∷◌}
use Rattle.event.specs.Bytes.{big_endian}
use Rattle.event.specs.Event.{Key, sharps, flats, Kind, note_off, note_on, poly_aftertouch, control, program, channel_aftertouch, pitch_bend, system_exclusive, system_exclusive_packet, sequence_number, text, channel_prefix, midi_port, end_track, tempo, smpte_offset, time_signature, key_signature, sequencer_specific, unknown_meta}

-- a status and one data byte; a status and two; F0 or F7 and data; FF, a type and data
pub data Frame : Type 0 where
  channel1 : ℕ → ℕ → Frame
  channel2 : ℕ → ℕ → ℕ → Frame
  exclusive : ℕ → List ℕ → Frame
  meta : ℕ → List ℕ → Frame

-- "A key below 0 is written with 256 added"
unfoldable pub key_byte : Key → ℕ
key_byte (sharps n) = n
key_byte (flats n) = 256 - n

-- the first column of the table; "Numbers in metas run high byte first"
unfoldable pub frame : Kind → Frame
frame (note_off c k v) = channel2 (0x80 + c) k v
frame (note_on c k v) = channel2 (0x90 + c) k v
frame (poly_aftertouch c k v) = channel2 (0xa0 + c) k v
frame (control c k v) = channel2 (0xb0 + c) k v
frame (program c p) = channel1 (0xc0 + c) p
frame (channel_aftertouch c v) = channel1 (0xd0 + c) v
frame (pitch_bend c v) = channel2 (0xe0 + c) (v % 128) (v / 128)
frame (system_exclusive d) = exclusive 0xf0 d
frame (system_exclusive_packet d) = exclusive 0xf7 d
frame (sequence_number n) = meta 0x00 (big_endian 2 n)
frame (text t d) = meta t d
frame (channel_prefix n) = meta 0x20 (big_endian 1 n)
frame (midi_port n) = meta 0x21 (big_endian 1 n)
frame end_track = meta 0x2f []
frame (tempo n) = meta 0x51 (big_endian 3 n)
frame (smpte_offset h m s f u) = meta 0x54 (h ∷ m ∷ s ∷ f ∷ u ∷ [])
frame (time_signature n d c b) = meta 0x58 (n ∷ d ∷ c ∷ b ∷ [])
frame (key_signature k m) = meta 0x59 (key_byte k ∷ m ∷ [])
frame (sequencer_specific d) = meta 0x7f d
frame (unknown_meta t d) = meta t d

-- "Track start, system exclusive and meta events leave no status in force"
abbrev pub no_status : ℕ
no_status = 0

-- the status in force after the event: "A channel status stays in force after its event"
unfoldable pub after : Frame → ℕ
after (channel1 s a) = s
after (channel2 s a b) = s
after (exclusive s d) = no_status
after (meta t d) = no_status
