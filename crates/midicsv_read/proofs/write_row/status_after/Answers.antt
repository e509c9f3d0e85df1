use mathlib.Core.List.{List, [], ◌∷◌}
use Prim.Native.Nat.{ℕ}
use denote.Enum.Declared.{tag_of}
use types.Run.{OneOf, miss}
use Rattle.event.specs.declared.EventKind.{EventKind}
use Rattle.event.specs.contracts.EventKind.{the_type}
use Rattle.event.specs.declared.EventKind.TheVariants.{NoteOff, NoteOn, PolyAftertouch, Control, Program, ChannelAftertouch, PitchBend, SystemExclusive, SystemExclusivePacket, SequenceNumber, Text, ChannelPrefix, MidiPort, EndTrack, Tempo, SmpteOffset, TimeSignature, KeySignature, SequencerSpecific, UnknownMeta}
use Rattle.midicsv_read.specs.RowEvent.{status_after}
use mathlib.Core.Path.{◌≡◌, refl}
use borrow.Enum.Refused.{opened}
use Rattle.midicsv_read.proofs.write_row.status_after.Goals as goal

abbrev longs : List ℕ
longs = 7 ∷ 8 ∷ 9 ∷ 10 ∷ 11 ∷ 12 ∷ 13 ∷ 14 ∷ 15 ∷ 16 ∷ 17 ∷ 18 ∷ 19 ∷ []

no-status : (k : EventKind) → OneOf longs (tag_of the_type k) → 0 ≡ status_after k
unfolding status_after
no-status (NoteOff a b c) h = absurd (miss longs 0 tt h)
no-status (NoteOn a b c) h = absurd (miss longs 1 tt h)
no-status (PolyAftertouch a b c) h = absurd (miss longs 2 tt h)
no-status (Control a b c) h = absurd (miss longs 3 tt h)
no-status (Program a b) h = absurd (miss longs 4 tt h)
no-status (ChannelAftertouch a b) h = absurd (miss longs 5 tt h)
no-status (PitchBend a b) h = absurd (miss longs 6 tt h)
no-status (SystemExclusive a b) h = refl
no-status (SystemExclusivePacket a b) h = refl
no-status (SequenceNumber a) h = refl
no-status (Text a b c) h = refl
no-status (ChannelPrefix a) h = refl
no-status (MidiPort a) h = refl
no-status EndTrack h = refl
no-status (Tempo a) h = refl
no-status (SmpteOffset a b c d e) h = refl
no-status (TimeSignature a b c d) h = refl
no-status (KeySignature a b) h = refl
no-status (SequencerSpecific a b) h = refl
no-status (UnknownMeta a b c) h = refl

pub returns-in-NoteOff : goal.returns-in-NoteOff
unfolding status_after
returns-in-NoteOff c = rw c.in-NoteOff.is

pub returns-in-NoteOn : goal.returns-in-NoteOn
unfolding status_after
returns-in-NoteOn c = rw c.in-NoteOn.is

pub returns-in-PolyAftertouch : goal.returns-in-PolyAftertouch
unfolding status_after
returns-in-PolyAftertouch c = rw c.in-PolyAftertouch.is

pub returns-in-Control : goal.returns-in-Control
unfolding status_after
returns-in-Control c = rw c.in-Control.is

pub returns-in-Program : goal.returns-in-Program
unfolding status_after
returns-in-Program c = rw c.in-Program.is

pub returns-in-ChannelAftertouch : goal.returns-in-ChannelAftertouch
unfolding status_after
returns-in-ChannelAftertouch c = rw c.in-ChannelAftertouch.is

pub returns-in-PitchBend : goal.returns-in-PitchBend
unfolding status_after
returns-in-PitchBend c = rw c.in-PitchBend.is

pub returns-in_default : goal.returns-in_default
unfolding status_after
returns-in_default c = no-status c.args.kind (opened c.in_default.in_default-own.keys8)
