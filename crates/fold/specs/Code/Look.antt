-- Looking for a Channel_prefix or MIDI_port alone.
use Rattle.std.specs.Prelude.{Option, Some, None, ℕ, Bool, true, false, []}
use Rattle.event.specs.Outcome.{Outcome, ok, refused}
use Rattle.event.specs.declared.EventKind.{EventKind}
use Rattle.event.specs.declared.EventKind.TheVariants.{NoteOff, NoteOn, PolyAftertouch, Control, Program, ChannelAftertouch, PitchBend, SystemExclusive, SystemExclusivePacket, SequenceNumber, Text, ChannelPrefix, MidiPort, EndTrack, Tempo, SmpteOffset, TimeSignature, KeySignature, SequencerSpecific, UnknownMeta}
use Rattle.smf.specs.Answer.{success, refusal}
use Rattle.smf.specs.declared.Answer.{Answer}

-- nothing is there
abbrev pub fine : Outcome ℕ
fine = ok 0 []

-- the answer of looking
unfoldable pub look_answer : Outcome ℕ → Answer
look_answer (ok n r) = success 0
look_answer (refused k p) = refusal k p

-- a place that was found, as the refusal that it stands for
abbrev pub looked : Option ℕ → Answer
looked (Some p) = refusal 33 p
looked None = success 0

-- whether an answer of the event side is one of the two
abbrev pub prefix_or_port_of : EventKind → Bool
prefix_or_port_of (NoteOff a b c) = false
prefix_or_port_of (NoteOn a b c) = false
prefix_or_port_of (PolyAftertouch a b c) = false
prefix_or_port_of (Control a b c) = false
prefix_or_port_of (Program a b) = false
prefix_or_port_of (ChannelAftertouch a b) = false
prefix_or_port_of (PitchBend a b) = false
prefix_or_port_of (SystemExclusive a b) = false
prefix_or_port_of (SystemExclusivePacket a b) = false
prefix_or_port_of (SequenceNumber a) = false
prefix_or_port_of (Text a b c) = false
prefix_or_port_of (ChannelPrefix a) = true
prefix_or_port_of (MidiPort a) = true
prefix_or_port_of EndTrack = false
prefix_or_port_of (Tempo a) = false
prefix_or_port_of (SmpteOffset a b c d e) = false
prefix_or_port_of (TimeSignature a b c d) = false
prefix_or_port_of (KeySignature a b) = false
prefix_or_port_of (SequencerSpecific a b) = false
prefix_or_port_of (UnknownMeta a b c) = false
