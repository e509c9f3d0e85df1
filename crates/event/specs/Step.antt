-- What the code's enums say, by document 01's numbers and values: the answer of each reader on the rest of a slice of n bytes,
-- with places in that slice. The place after what was read is n less what is left.
use Rattle.std.specs.Prelude.{ℕ, zero, suc, Result, Ok, Err, ◌-◌, Bool, true, false, List, [], ◌∷◌, length, get_or, take, drop, leb}
use Rattle.event.specs.Choice.{pick}
use Rattle.event.specs.Outcome.{Outcome, ok, refused}
use Rattle.event.specs.Event.{Event, Kind, note_off, note_on, poly_aftertouch, control, program, channel_aftertouch, pitch_bend, system_exclusive, system_exclusive_packet, sequence_number, text, channel_prefix, midi_port, end_track, tempo, smpte_offset, time_signature, key_signature, sequencer_specific, unknown_meta}
use Rattle.event.specs.Frame.{Frame, frame, after, key_byte}
use Rattle.event.specs.Reader.{key_of, kind_in}
use Rattle.event.specs.declared.EventKind.{EventKind}
use Rattle.event.specs.declared.EventKind.TheVariants.{NoteOff, NoteOn, PolyAftertouch, Control, Program, ChannelAftertouch, PitchBend, SystemExclusive, SystemExclusivePacket, SequenceNumber, Text, ChannelPrefix, MidiPort, EndTrack, Tempo, SmpteOffset, TimeSignature, KeySignature, SequencerSpecific, UnknownMeta}
use Rattle.event.specs.declared.DataPlace.{DataPlace}
use Rattle.event.specs.declared.NumberRead.{NumberRead}
use Rattle.event.specs.declared.FrameRead.{FrameRead}
use Rattle.event.specs.declared.EventRead.{EventRead}
use Rattle.event.specs.declared.Cursor.{Cursor}

-- the k bytes of l from the place i on; 0 stands for a byte past its end
abbrev pub bytes_from : ℕ → List ℕ → ℕ → List ℕ
bytes_from zero l i = []
bytes_from (suc k) l i = get_or l i 0 ∷ bytes_from k l (suc i)

-- a variable-length number, the place after it and its padding x, or the number of the refusal
unfoldable pub number_step : ℕ → ℕ → Outcome ℕ → Result NumberRead ℕ
number_step n x (ok v r) = Ok (record { value = v; next = n - length r; padding = x })
number_step n x (refused k p) = Err k

-- a data byte of a channel event, or the number of the refusal
unfoldable pub byte_step : Outcome ℕ → Result ℕ ℕ
byte_step (ok v r) = Ok v
byte_step (refused k p) = Err k

-- a kind whose event ends before the place next: its data stand there, at next less their number
unfoldable pub kind_at : ℕ → Kind → EventKind
kind_at next (note_off c k v) = NoteOff c k v
kind_at next (note_on c k v) = NoteOn c k v
kind_at next (poly_aftertouch c k v) = PolyAftertouch c k v
kind_at next (control c k v) = Control c k v
kind_at next (program c p) = Program c p
kind_at next (channel_aftertouch c v) = ChannelAftertouch c v
kind_at next (pitch_bend c v) = PitchBend c v
kind_at next (system_exclusive d) = SystemExclusive (next - length d) (length d)
kind_at next (system_exclusive_packet d) = SystemExclusivePacket (next - length d) (length d)
kind_at next (sequence_number n) = SequenceNumber n
kind_at next (text t d) = Text t (next - length d) (length d)
kind_at next (channel_prefix n) = ChannelPrefix n
kind_at next (midi_port n) = MidiPort n
kind_at next end_track = EndTrack
kind_at next (tempo n) = Tempo n
kind_at next (smpte_offset h m s f u) = SmpteOffset h m s f u
kind_at next (time_signature n d c b) = TimeSignature n d c b
kind_at next (key_signature k m) = KeySignature (key_byte k) m
kind_at next (sequencer_specific d) = SequencerSpecific (next - length d) (length d)
kind_at next (unknown_meta t d) = UnknownMeta t (next - length d) (length d)

-- whether it is End_track
abbrev pub end_of : EventKind → Bool
end_of (NoteOff a b c) = false
end_of (NoteOn a b c) = false
end_of (PolyAftertouch a b c) = false
end_of (Control a b c) = false
end_of (Program a b) = false
end_of (ChannelAftertouch a b) = false
end_of (PitchBend a b) = false
end_of (SystemExclusive a b) = false
end_of (SystemExclusivePacket a b) = false
end_of (SequenceNumber a) = false
end_of (Text a b c) = false
end_of (ChannelPrefix a) = false
end_of (MidiPort a) = false
end_of EndTrack = true
end_of (Tempo a) = false
end_of (SmpteOffset a b c d e) = false
end_of (TimeSignature a b c d) = false
end_of (KeySignature a b) = false
end_of (SequencerSpecific a b) = false
end_of (UnknownMeta a b c) = false

-- an event after its delta: kind and fields, the place after it, the status in force after it; its length's padding is told apart
unfoldable pub frame_at : ℕ → Frame → FrameRead
frame_at next x = record { kind = kind_at next (kind_in x); next = next; status = after x; padding = 0 }

-- an event that leaves no status in force
abbrev pub silent : EventKind → ℕ → FrameRead
silent k next = record { kind = k; next = next; status = 0; padding = 0 }

-- the same, or the number of the refusal
unfoldable pub frame_step : ℕ → Outcome Frame → Result FrameRead ℕ
frame_step n (ok x r) = Ok (frame_at (n - length r) x)
frame_step n (refused k p) = Err k

-- with the padding x of its length
unfoldable pub padded : ℕ → Result FrameRead ℕ → Result FrameRead ℕ
padded x (Ok f) = Ok (record { kind = f.kind; next = f.next; status = f.status; padding = x })
padded x (Err k) = Err k

-- before a track's first event, which stands at a place
abbrev pub start_at : ℕ → Cursor
start_at place = record { place = place; time = record { 0 = 0 }; status = 0 }

-- an event: its Time besides, and the padding x of its delta and length
unfoldable pub event_step : ℕ → ℕ → Outcome Event → Result EventRead ℕ
event_step n x (ok e r) =
    Ok (record { kind = kind_at (n - length r) e.kind; next = record { place = n - length r; time = record { 0 = e.time }; status = after (frame e.kind) }; padding = x })
event_step n x (refused k p) = Err k

-- the len bytes of s from the place start on, or none where they are not all there
unfoldable pub data_at : List ℕ → ℕ → ℕ → List ℕ
data_at s start len = pick (leb start (length s)) (pick (leb len (length s - start)) (take len (drop start s)) []) []

-- the kind and fields of an answer, with the data bytes that stand in the track's body at its place and length
unfoldable pub kind_from : List ℕ → EventKind → Kind
kind_from body (NoteOff c k v) = note_off c k v
kind_from body (NoteOn c k v) = note_on c k v
kind_from body (PolyAftertouch c k v) = poly_aftertouch c k v
kind_from body (Control c k v) = control c k v
kind_from body (Program c p) = program c p
kind_from body (ChannelAftertouch c v) = channel_aftertouch c v
kind_from body (PitchBend c v) = pitch_bend c v
kind_from body (SystemExclusive start len) = system_exclusive (data_at body start len)
kind_from body (SystemExclusivePacket start len) = system_exclusive_packet (data_at body start len)
kind_from body (SequenceNumber n) = sequence_number n
kind_from body (Text t start len) = text t (data_at body start len)
kind_from body (ChannelPrefix n) = channel_prefix n
kind_from body (MidiPort n) = midi_port n
kind_from body EndTrack = end_track
kind_from body (Tempo n) = tempo n
kind_from body (SmpteOffset h m s f u) = smpte_offset h m s f u
kind_from body (TimeSignature n d c b) = time_signature n d c b
kind_from body (KeySignature k m) = key_signature (key_of k) m
kind_from body (SequencerSpecific start len) = sequencer_specific (data_at body start len)
kind_from body (UnknownMeta t start len) = unknown_meta t (data_at body start len)

-- where the data of an event stand; an event without data has none, at 0
unfoldable pub place_of : EventKind → DataPlace
place_of (NoteOff c k v) = record { start = 0; len = 0 }
place_of (NoteOn c k v) = record { start = 0; len = 0 }
place_of (PolyAftertouch c k v) = record { start = 0; len = 0 }
place_of (Control c k v) = record { start = 0; len = 0 }
place_of (Program c p) = record { start = 0; len = 0 }
place_of (ChannelAftertouch c v) = record { start = 0; len = 0 }
place_of (PitchBend c v) = record { start = 0; len = 0 }
place_of (SystemExclusive start len) = record { start = start; len = len }
place_of (SystemExclusivePacket start len) = record { start = start; len = len }
place_of (SequenceNumber n) = record { start = 0; len = 0 }
place_of (Text t start len) = record { start = start; len = len }
place_of (ChannelPrefix n) = record { start = 0; len = 0 }
place_of (MidiPort n) = record { start = 0; len = 0 }
place_of EndTrack = record { start = 0; len = 0 }
place_of (Tempo n) = record { start = 0; len = 0 }
place_of (SmpteOffset h m s f u) = record { start = 0; len = 0 }
place_of (TimeSignature n d c b) = record { start = 0; len = 0 }
place_of (KeySignature k m) = record { start = 0; len = 0 }
place_of (SequencerSpecific start len) = record { start = start; len = len }
place_of (UnknownMeta t start len) = record { start = start; len = len }
