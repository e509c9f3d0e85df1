-- The names one by one.
use mathlib.Core.Path.{◌≡◌, refl}
use Prim.Native.Nat.{ℕ, zero, suc, ◌+◌, ◌<◌, ◌≤◌}
use native.Mathlib.Omega.{arith}
use native.Mathlib.Numerals.{add-one}
use lib.ListN.{get_or, drop, drop_of_length-le}
use lib.Seq.{drop-cons}
use Rattle.std.specs.Prelude.{Some, None}
use Rattle.event.specs.Choice.{pick}
use mathlib.Core.Bool.{true, false}
use mathlib.Core.List.{List, [], ◌∷◌}
use Rattle.midicsv.specs.Table.{end_of_file, spelled}
use Rattle.midicsv.specs.Names.{all_names, same_name, find}
use Rattle.midicsv.specs.Result.{good}
use Rattle.midicsv.specs.ReadRecord.{together}
use Rattle.midicsv_record.specs.Name.{name_at, name_as}
use Rattle.midicsv_record.proofs.TableLaws.{each}
use Rattle.midicsv_record.specs.declared.Name.{Name}
use Rattle.midicsv_record.specs.declared.Name.TheVariants.{Header, StartTrack, EndOfFile, NoteOff, NoteOn, PolyAftertouch, Control, Program, ChannelAftertouch, PitchBend, SystemExclusive, SystemExclusivePacket, SequenceNumber, Text, Copyright, Title, InstrumentName, Lyric, Marker, CuePoint, ChannelPrefix, MidiPort, EndTrack, Tempo, SmpteOffset, TimeSignature, KeySignature, SequencerSpecific, UnknownMetaEvent}

-- the Header alone asks more of its numbers
pub only_header : (n : Name) (ns : List ℕ) → (n ≡ Header → ⊥) → true ≡ together (name_at n) ns
unfolding together
only_header Header ns h = absurd (h refl)
only_header StartTrack ns h = refl
only_header EndOfFile ns h = refl
only_header NoteOff ns h = refl
only_header NoteOn ns h = refl
only_header PolyAftertouch ns h = refl
only_header Control ns h = refl
only_header Program ns h = refl
only_header ChannelAftertouch ns h = refl
only_header PitchBend ns h = refl
only_header SystemExclusive ns h = refl
only_header SystemExclusivePacket ns h = refl
only_header SequenceNumber ns h = refl
only_header Text ns h = refl
only_header Copyright ns h = refl
only_header Title ns h = refl
only_header InstrumentName ns h = refl
only_header Lyric ns h = refl
only_header Marker ns h = refl
only_header CuePoint ns h = refl
only_header ChannelPrefix ns h = refl
only_header MidiPort ns h = refl
only_header EndTrack ns h = refl
only_header Tempo ns h = refl
only_header SmpteOffset ns h = refl
only_header TimeSignature ns h = refl
only_header KeySignature ns h = refl
only_header SequencerSpecific ns h = refl
only_header UnknownMetaEvent ns h = refl

-- ---- names looked for one after the other

abbrev pub code_names : List Name
code_names = Header ∷ StartTrack ∷ EndOfFile ∷ NoteOff ∷ NoteOn ∷ PolyAftertouch ∷ Control ∷ Program ∷ ChannelAftertouch ∷ PitchBend ∷ SystemExclusive ∷ SystemExclusivePacket ∷ SequenceNumber ∷ Text ∷ Copyright ∷ Title ∷ InstrumentName ∷ Lyric ∷ Marker ∷ CuePoint ∷ ChannelPrefix ∷ MidiPort ∷ EndTrack ∷ Tempo ∷ SmpteOffset ∷ TimeSignature ∷ KeySignature ∷ SequencerSpecific ∷ UnknownMetaEvent ∷ []

-- they are those of the list of names
nth_name : (i : ℕ) (d : Name) → i < 29 → name_at (get_or code_names i d) ≡ get_or all_names i end_of_file
nth_name i d h = each (λ j. name_at (get_or code_names j d) ≡ get_or all_names j end_of_file) 0 29 i (omega arith) (omega arith) (refl, (refl, (refl, (refl, (refl, (refl, (refl, (refl, (refl, (refl, (refl, (refl, (refl, (refl, (refl, (refl, (refl, (refl, (refl, (refl, (refl, (refl, (refl, (refl, (refl, (refl, (refl, (refl, (refl, tt)))))))))))))))))))))))))))))

module _ (s : List ℕ) (i : ℕ) where
  find_here : (d : Name) → i < 29
      → find s (drop i all_names) ≡ pick (same_name s (spelled (name_at (get_or code_names i d)))) (good (name_at (get_or code_names i d))) (find s (drop (i + 1) all_names))
  unfolding find
  find_here d h = rw (nth_name i d h, add-one i, drop-cons all_names i end_of_file h)

  pub found : (d : Name) → i < 29 → same_name s (spelled (name_at (get_or code_names i d))) ≡ true → name_as (Some (get_or code_names i d)) ≡ find s (drop i all_names)
  unfolding name_as pick
  found d h e = rw (find_here d h, e)

  pub not_here : (d : Name) → i < 29 → same_name s (spelled (name_at (get_or code_names i d))) ≡ false → find s (drop i all_names) ≡ find s (drop (i + 1) all_names)
  unfolding pick
  not_here d h e = rw (find_here d h, e)

  pub not_found : 29 ≤ i → name_as None ≡ find s (drop i all_names)
  unfolding name_as find
  not_found h = rw (drop_of_length-le all_names h)

-- what the last arm of a match on the numbers under k knows
abbrev pub NoneUnder : ℕ → ℕ → Type 0
NoneUnder zero n = Unit {0}
NoneUnder (suc k) n = NoneUnder k n × (n ≡ k → ⊥)

pub none_under : (k n : ℕ) → NoneUnder k n → k ≤ n
none_under zero n h = omega arith
none_under (suc k) n h = let low : k ≤ n = none_under k n h.0 in omega (arith, h.1)
