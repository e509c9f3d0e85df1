use mathlib.Core.List.{List, [], ◌∷◌}
use Prim.Native.Nat.{ℕ}
use denote.Enum.Declared.{tag_of}
use types.Run.{OneOf, miss}
use borrow.Enum.Refused.{opened}
use Rattle.event.specs.Step.{place_of}
use Rattle.event.specs.declared.EventKind.{EventKind}
use Rattle.event.specs.declared.EventKind.TheVariants.{NoteOff, NoteOn, PolyAftertouch, Control, Program, ChannelAftertouch, PitchBend, SystemExclusive, SystemExclusivePacket, SequenceNumber, Text, ChannelPrefix, MidiPort, EndTrack, Tempo, SmpteOffset, TimeSignature, KeySignature, SequencerSpecific, UnknownMeta}
use Rattle.event.specs.contracts.EventKind.{the_type}
use mathlib.Core.Path.{◌≡◌, refl}
use Rattle.event.proofs.read.data_place.Goals as goal

abbrev others : List ℕ
others = 0 ∷ 1 ∷ 2 ∷ 3 ∷ 4 ∷ 5 ∷ 6 ∷ 9 ∷ 11 ∷ 12 ∷ 13 ∷ 14 ∷ 15 ∷ 16 ∷ 17 ∷ []

no_data : (k : EventKind) → OneOf others (tag_of the_type k) → record { start = 0; len = 0 } ≡ place_of k
unfolding place_of
no_data (NoteOff a b c) h = refl
no_data (NoteOn a b c) h = refl
no_data (PolyAftertouch a b c) h = refl
no_data (Control a b c) h = refl
no_data (Program a b) h = refl
no_data (ChannelAftertouch a b) h = refl
no_data (PitchBend a b) h = refl
no_data (SystemExclusive a b) h = absurd (miss others 7 tt h)
no_data (SystemExclusivePacket a b) h = absurd (miss others 8 tt h)
no_data (SequenceNumber a) h = refl
no_data (Text a b c) h = absurd (miss others 10 tt h)
no_data (ChannelPrefix a) h = refl
no_data (MidiPort a) h = refl
no_data EndTrack h = refl
no_data (Tempo a) h = refl
no_data (SmpteOffset a b c d e) h = refl
no_data (TimeSignature a b c d) h = refl
no_data (KeySignature a b) h = refl
no_data (SequencerSpecific a b) h = absurd (miss others 18 tt h)
no_data (UnknownMeta a b c) h = absurd (miss others 19 tt h)

pub returns-in-SystemExclusive : goal.returns-in-SystemExclusive
unfolding place_of
returns-in-SystemExclusive c = rw c.in-SystemExclusive.is

pub returns-in-SystemExclusivePacket : goal.returns-in-SystemExclusivePacket
unfolding place_of
returns-in-SystemExclusivePacket c = rw c.in-SystemExclusivePacket.is

pub returns-in-Text : goal.returns-in-Text
unfolding place_of
returns-in-Text c = rw c.in-Text.is

pub returns-in-SequencerSpecific : goal.returns-in-SequencerSpecific
unfolding place_of
returns-in-SequencerSpecific c = rw c.in-SequencerSpecific.is

pub returns-in-UnknownMeta : goal.returns-in-UnknownMeta
unfolding place_of
returns-in-UnknownMeta c = rw c.in-UnknownMeta.is

pub returns-in_default : goal.returns-in_default
returns-in_default c = no_data c.args.kind (opened c.in_default.in_default-own.keys6)
