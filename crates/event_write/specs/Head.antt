-- The bytes of an event before its data: delta, status, fields or type, and the length. A kind and its fields are as the code has
-- them; of a field outside its range the bits that have no room are dropped.
use Rattle.std.specs.Prelude.{ℕ, ◌+◌, ◌/◌, ◌%◌, Bool, true, false, List, [], ◌∷◌, ◌++◌, eqb}
use Rattle.event.specs.Choice.{pick}
use Rattle.event.specs.Bytes.{big_endian}
use Rattle.event.specs.Number.{vlq, least}
use Rattle.event.specs.Event.{Kind, note_off, note_on, poly_aftertouch, control, program, channel_aftertouch, pitch_bend, system_exclusive, system_exclusive_packet, sequence_number, text, channel_prefix, midi_port, end_track, tempo, smpte_offset, time_signature, key_signature, sequencer_specific, unknown_meta}
use Rattle.event.specs.Manner.{Manner, full, short}
use Rattle.event.specs.declared.EventKind.{EventKind}
use Rattle.event.specs.declared.EventKind.TheVariants.{NoteOff, NoteOn, PolyAftertouch, Control, Program, ChannelAftertouch, PitchBend, SystemExclusive, SystemExclusivePacket, SequenceNumber, Text, ChannelPrefix, MidiPort, EndTrack, Tempo, SmpteOffset, TimeSignature, KeySignature, SequencerSpecific, UnknownMeta}

-- the manner that the code's test stands for
unfoldable pub manner_of : Bool → Manner
manner_of true = short
manner_of false = full

-- a number in the fewest bytes
unfoldable pub fewest : ℕ → List ℕ
fewest n = vlq (least (n % 268435456)) (n % 268435456)

-- the status s of a channel event, with force in force
unfoldable pub status_bytes : Manner → ℕ → ℕ → List ℕ
status_bytes full force s = s ∷ []
status_bytes short force s = pick (eqb force s) [] (s ∷ [])

-- FF, the type and the length of a meta event
unfoldable pub meta_bytes : ℕ → ℕ → List ℕ
meta_bytes t n = 0xff ∷ t ∷ fewest n

-- a system exclusive or meta event to the end of its fields, or to its length where data follow; nothing of a channel event
unfoldable pub long_bytes : EventKind → List ℕ
long_bytes (NoteOff c k v) = []
long_bytes (NoteOn c k v) = []
long_bytes (PolyAftertouch c k v) = []
long_bytes (Control c k v) = []
long_bytes (Program c p) = []
long_bytes (ChannelAftertouch c v) = []
long_bytes (PitchBend c v) = []
long_bytes (SystemExclusive start len) = 0xf0 ∷ fewest len
long_bytes (SystemExclusivePacket start len) = 0xf7 ∷ fewest len
long_bytes (SequenceNumber n) = meta_bytes 0x00 2 ++ big_endian 2 n
long_bytes (Text t start len) = meta_bytes t len
long_bytes (ChannelPrefix n) = meta_bytes 0x20 1 ++ (n ∷ [])
long_bytes (MidiPort n) = meta_bytes 0x21 1 ++ (n ∷ [])
long_bytes EndTrack = meta_bytes 0x2f 0
long_bytes (Tempo n) = meta_bytes 0x51 3 ++ big_endian 3 n
long_bytes (SmpteOffset h m s f u) = meta_bytes 0x54 5 ++ (h ∷ m ∷ s ∷ f ∷ u ∷ [])
long_bytes (TimeSignature n d c b) = meta_bytes 0x58 4 ++ (n ∷ d ∷ c ∷ b ∷ [])
long_bytes (KeySignature k m) = meta_bytes 0x59 2 ++ (k ∷ m ∷ [])
long_bytes (SequencerSpecific start len) = meta_bytes 0x7f len
long_bytes (UnknownMeta t start len) = meta_bytes t len

-- a channel event whole, or the others as above
unfoldable pub tail_bytes : Manner → ℕ → EventKind → List ℕ
tail_bytes m force (NoteOff c k v) = status_bytes m force (0x80 + c % 16) ++ (k ∷ v ∷ [])
tail_bytes m force (NoteOn c k v) = status_bytes m force (0x90 + c % 16) ++ (k ∷ v ∷ [])
tail_bytes m force (PolyAftertouch c k v) = status_bytes m force (0xa0 + c % 16) ++ (k ∷ v ∷ [])
tail_bytes m force (Control c k v) = status_bytes m force (0xb0 + c % 16) ++ (k ∷ v ∷ [])
tail_bytes m force (Program c p) = status_bytes m force (0xc0 + c % 16) ++ (p ∷ [])
tail_bytes m force (ChannelAftertouch c v) = status_bytes m force (0xd0 + c % 16) ++ (v ∷ [])
tail_bytes m force (PitchBend c v) = status_bytes m force (0xe0 + c % 16) ++ (v % 128 ∷ v / 128 % 128 ∷ [])
tail_bytes m force (SystemExclusive start len) = long_bytes (SystemExclusive start len)
tail_bytes m force (SystemExclusivePacket start len) = long_bytes (SystemExclusivePacket start len)
tail_bytes m force (SequenceNumber n) = long_bytes (SequenceNumber n)
tail_bytes m force (Text t start len) = long_bytes (Text t start len)
tail_bytes m force (ChannelPrefix n) = long_bytes (ChannelPrefix n)
tail_bytes m force (MidiPort n) = long_bytes (MidiPort n)
tail_bytes m force EndTrack = long_bytes EndTrack
tail_bytes m force (Tempo n) = long_bytes (Tempo n)
tail_bytes m force (SmpteOffset h a s f u) = long_bytes (SmpteOffset h a s f u)
tail_bytes m force (TimeSignature n d c b) = long_bytes (TimeSignature n d c b)
tail_bytes m force (KeySignature k a) = long_bytes (KeySignature k a)
tail_bytes m force (SequencerSpecific start len) = long_bytes (SequencerSpecific start len)
tail_bytes m force (UnknownMeta t start len) = long_bytes (UnknownMeta t start len)

-- the same with the delta before it
unfoldable pub head_bytes : Manner → ℕ → ℕ → EventKind → List ℕ
head_bytes m force delta k = fewest delta ++ tail_bytes m force k

-- the data bytes that follow the head
unfoldable pub data_of : Kind → List ℕ
data_of (note_off c k v) = []
data_of (note_on c k v) = []
data_of (poly_aftertouch c k v) = []
data_of (control c k v) = []
data_of (program c p) = []
data_of (channel_aftertouch c v) = []
data_of (pitch_bend c v) = []
data_of (system_exclusive d) = d
data_of (system_exclusive_packet d) = d
data_of (sequence_number n) = []
data_of (text t d) = d
data_of (channel_prefix n) = []
data_of (midi_port n) = []
data_of end_track = []
data_of (tempo n) = []
data_of (smpte_offset h m s f u) = []
data_of (time_signature n d c b) = []
data_of (key_signature k m) = []
data_of (sequencer_specific d) = d
data_of (unknown_meta t d) = d
