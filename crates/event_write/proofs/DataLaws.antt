-- The data of an event of a track's body, and how long an event's head and data can be.
use mathlib.Core.Path.{◌≡◌, refl}
use Prim.Native.Nat.{ℕ, ◌-◌, ◌≤◌}
use mathlib.Core.Bool.{Bool, true, false}
use mathlib.Core.List.{List, [], ◌++◌}
use native.Mathlib.Omega.{arith}
use lib.ListN.{length, take, drop, length-append, length-take, length-drop}
use lib.Dec.{leb}
use borrow.Author.Tests.{le-leb}
use Rattle.event.specs.Choice.{pick}
use Rattle.event.specs.Bytes.{bytes_onto, big_endian}
use Rattle.event.specs.Manner.{Manner}
use Rattle.event.specs.Step.{data_at, kind_from, place_of}
use Rattle.event.specs.declared.EventKind.{EventKind}
use Rattle.event.specs.declared.EventKind.TheVariants.{NoteOff, NoteOn, PolyAftertouch, Control, Program, ChannelAftertouch, PitchBend, SystemExclusive, SystemExclusivePacket, SequenceNumber, Text, ChannelPrefix, MidiPort, EndTrack, Tempo, SmpteOffset, TimeSignature, KeySignature, SequencerSpecific, UnknownMeta}
use Rattle.event_write.specs.Head.{fewest, status_bytes, meta_bytes, long_bytes, tail_bytes, head_bytes, data_of}
use Rattle.event_write.proofs.NumberLaws.{fewest_length}
use Rattle.event_write.proofs.HeadLaws.{status_length, meta_length}

no_data : (s : List ℕ) → data_at s 0 0 ≡ []
unfolding data_at pick
no_data s = simp (le-leb 0 (length s) (omega arith), le-leb 0 (length s - 0) (omega arith))

-- the bytes at the place that an answer names are the data of its kind
pub data_in : (s : List ℕ) (k : EventKind) → data_at s (place_of k).start (place_of k).len ≡ data_of (kind_from s k)
unfolding data_of kind_from place_of
data_in s (NoteOff a b c) = no_data s
data_in s (NoteOn a b c) = no_data s
data_in s (PolyAftertouch a b c) = no_data s
data_in s (Control a b c) = no_data s
data_in s (Program a b) = no_data s
data_in s (ChannelAftertouch a b) = no_data s
data_in s (PitchBend a b) = no_data s
data_in s (SystemExclusive a b) = refl
data_in s (SystemExclusivePacket a b) = refl
data_in s (SequenceNumber a) = no_data s
data_in s (Text a b c) = refl
data_in s (ChannelPrefix a) = no_data s
data_in s (MidiPort a) = no_data s
data_in s EndTrack = no_data s
data_in s (Tempo a) = no_data s
data_in s (SmpteOffset a b c d e) = no_data s
data_in s (TimeSignature a b c d) = no_data s
data_in s (KeySignature a b) = no_data s
data_in s (SequencerSpecific a b) = refl
data_in s (UnknownMeta a b c) = refl

part_length : (s : List ℕ) (start len : ℕ) (a b : Bool) → length (pick a (pick b (take len (drop start s)) []) []) ≤ length s
unfolding pick
part_length s start len true true = simp (length-take, length-drop) (omega arith)
part_length s start len true false = omega arith
part_length s start len false true = omega arith
part_length s start len false false = omega arith

pub data_length : (s : List ℕ) (start len : ℕ) → length (data_at s start len) ≤ length s
unfolding data_at
data_length s start len = part_length s start len (leb start (length s)) (leb len (length s - start))

status_most : (m : Manner) (force s : ℕ) (l : List ℕ) → length l ≤ 2 → length (status_bytes m force s ++ l) ≤ 11
status_most m force s l h = omega (arith, length-append (status_bytes m force s) l, status_length m force s)

meta_most : (t n : ℕ) (l : List ℕ) → length l ≤ 5 → length (meta_bytes t n ++ l) ≤ 11
meta_most t n l h = omega (arith, length-append (meta_bytes t n) l, meta_length t n)

tail_length : (m : Manner) (force : ℕ) (k : EventKind) → length (tail_bytes m force k) ≤ 11
unfolding tail_bytes long_bytes big_endian bytes_onto
tail_length m force (NoteOff c k v) = status_most m force _ _ (omega arith)
tail_length m force (NoteOn c k v) = status_most m force _ _ (omega arith)
tail_length m force (PolyAftertouch c k v) = status_most m force _ _ (omega arith)
tail_length m force (Control c k v) = status_most m force _ _ (omega arith)
tail_length m force (Program c p) = status_most m force _ _ (omega arith)
tail_length m force (ChannelAftertouch c v) = status_most m force _ _ (omega arith)
tail_length m force (PitchBend c v) = status_most m force _ _ (omega arith)
tail_length m force (SystemExclusive a n) = omega (arith, fewest_length n)
tail_length m force (SystemExclusivePacket a n) = omega (arith, fewest_length n)
tail_length m force (SequenceNumber n) = meta_most 0x00 2 _ (omega arith)
tail_length m force (Text t a n) = omega (arith, meta_length t n)
tail_length m force (ChannelPrefix n) = meta_most 0x20 1 _ (omega arith)
tail_length m force (MidiPort n) = meta_most 0x21 1 _ (omega arith)
tail_length m force EndTrack = omega (arith, meta_length 0x2f 0)
tail_length m force (Tempo n) = meta_most 0x51 3 _ (omega arith)
tail_length m force (SmpteOffset h a s f u) = meta_most 0x54 5 _ (omega arith)
tail_length m force (TimeSignature n d c b) = meta_most 0x58 4 _ (omega arith)
tail_length m force (KeySignature k a) = meta_most 0x59 2 _ (omega arith)
tail_length m force (SequencerSpecific a n) = omega (arith, meta_length 0x7f n)
tail_length m force (UnknownMeta t a n) = omega (arith, meta_length t n)

pub head_length : (m : Manner) (force delta : ℕ) (k : EventKind) → length (head_bytes m force delta k) ≤ 15
unfolding head_bytes
head_length m force delta k = omega (arith, length-append (fewest delta) (tail_bytes m force k), fewest_length delta, tail_length m force k)
