use mathlib.Core.Path.{◌≡◌, refl}
use mathlib.Core.Bool.{false}
use mathlib.Core.Logic.{inl, inr}
use mathlib.Core.List.{List, [], ◌∷◌}
use Prim.Native.Nat.{ℕ}
use denote.Enum.Declared.{tag_of}
use types.Run.{OneOf, miss}
use Rattle.event.specs.declared.EventKind.{EventKind}
use Rattle.event.specs.contracts.EventKind.{the_type}
use Rattle.event.specs.declared.EventKind.TheVariants.{NoteOff, NoteOn, PolyAftertouch, Control, Program, ChannelAftertouch, PitchBend, SystemExclusive, SystemExclusivePacket, SequenceNumber, Text, ChannelPrefix, MidiPort, EndTrack, Tempo, SmpteOffset, TimeSignature, KeySignature, SequencerSpecific, UnknownMeta}
use Rattle.fold.specs.Code.Look.{prefix_or_port_of}
use borrow.Enum.Refused.{opened}
use Rattle.fold.proofs.look.is_prefix_or_port.Goals as goal

abbrev others : List ℕ
others = 0 ∷ 1 ∷ 2 ∷ 3 ∷ 4 ∷ 5 ∷ 6 ∷ 7 ∷ 8 ∷ 9 ∷ 10 ∷ 13 ∷ 14 ∷ 15 ∷ 16 ∷ 17 ∷ 18 ∷ 19 ∷ []

no-aim : (k : EventKind) → OneOf others (tag_of the_type k) → false ≡ prefix_or_port_of k
no-aim (NoteOff a b c) h = refl
no-aim (NoteOn a b c) h = refl
no-aim (PolyAftertouch a b c) h = refl
no-aim (Control a b c) h = refl
no-aim (Program a b) h = refl
no-aim (ChannelAftertouch a b) h = refl
no-aim (PitchBend a b) h = refl
no-aim (SystemExclusive a b) h = refl
no-aim (SystemExclusivePacket a b) h = refl
no-aim (SequenceNumber a) h = refl
no-aim (Text a b c) h = refl
no-aim (ChannelPrefix a) h = absurd (miss others 11 tt h)
no-aim (MidiPort a) h = absurd (miss others 12 tt h)
no-aim EndTrack h = refl
no-aim (Tempo a) h = refl
no-aim (SmpteOffset a b c d e) h = refl
no-aim (TimeSignature a b c d) h = refl
no-aim (KeySignature a b) h = refl
no-aim (SequencerSpecific a b) h = refl
no-aim (UnknownMeta a b c) h = refl

pub returns-in-ChannelPrefix : goal.returns-in-ChannelPrefix
returns-in-ChannelPrefix c = elim c.in-ChannelPrefix.is [ inl h ↦ rw h.1 refl | inr h ↦ rw h.1 refl ]

pub returns-in_default : goal.returns-in_default
returns-in_default c = no-aim c.args.kind (opened c.in_default.in_default-own.keys2)
