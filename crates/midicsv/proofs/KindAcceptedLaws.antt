-- The kind of an accepted record, of values in their ranges, fits.
use mathlib.Core.Path.{◌≡◌, refl}
use Prim.Native.Nat.{ℕ, zero, suc, ◌+◌, ◌-◌, ◌<◌, ◌≤◌}
use mathlib.Core.List.{List, [], ◌∷◌}
use mathlib.Core.Logic.{◌⊎◌, inl, inr}
use native.Mathlib.Omega.{arith}
use lib.ListN.{length, get_or}
use lib.Dec.{leb}
use borrow.Author.Tests.{le-leb, lt-leb, leb-false}
use Rattle.event.specs.Bytes.{big_endian, bytes_onto}
use Rattle.event.specs.Choice.{pick}
use Rattle.event.specs.Event.{sharps, flats, KeyFits, Fits}
use Rattle.event.specs.Frame.{key_byte, frame}
use Rattle.event.specs.Reader.{key_of}
use Rattle.event.proofs.ChoiceLaws.{pick_cases, pick_true, pick_false, by_test}
use Rattle.midicsv.specs.Field.{Field, num, minus, name, quoted}
use Rattle.midicsv.specs.Table.{EventName, note_off_name, note_on_name, poly_aftertouch_name, control_change_name, program_change_name, channel_aftertouch_name, pitch_bend_name, system_exclusive_name, system_exclusive_packet_name, sequence_number_name, words, channel_prefix_name, midi_port_name, end_track_name, set_tempo_name, smpte_offset_name, time_signature_name, key_signature_name, sequencer_specific_name, unknown_meta_name, RecordName, event, event_spelled, spelled, Column, range, event_shape, shape}
use Rattle.midicsv.specs.Record.{Values}
use Rattle.midicsv.specs.Result.{good}
use Rattle.midicsv.specs.Names.{all_names, find, name_from}
use Rattle.midicsv.specs.KindOf.{kind_named}
use Rattle.midicsv.proofs.ResultLaws.{not_good, good_same}
use Rattle.midicsv.proofs.RowLaws.{InColumn, InColumns, InTail}
use Rattle.midicsv.proofs.LayableLaws.{data_size}

-- ---- the i-th value is in the i-th column

pub nth_in : (cs : List Column) (ns : List ℕ) (i : ℕ) → InColumns cs ns → i < length cs → InColumn (get_or cs i (range 0 0)) (get_or ns i 0)
unfolding InColumns
nth_in [] ns i h l = absurd (omega arith)
nth_in (c ∷ cs) [] i h l = absurd h
nth_in (c ∷ cs) (n ∷ ns) zero h l = h.0
nth_in (c ∷ cs) (n ∷ ns) (suc i) h l = nth_in cs ns i h.1 (omega arith)

key_fits : (b : ℕ) → (b < 8) ⊎ ((249 ≤ b) × (b < 256)) → KeyFits (key_of b)
unfolding KeyFits key_of
key_fits b (inl h) = rw (pick_true (sharps b) (flats (256 - b)) (le-leb b 7 (omega arith))) (omega arith)
key_fits b (inr h) = rw (pick_false (sharps b) (flats (256 - b)) (lt-leb b 7 (omega arith))) (omega arith)

-- the byte of a key
pub key_same : (b : ℕ) → b ≤ 255 → key_byte (key_of b) ≡ b
unfolding key_byte key_of pick
key_same b h = by_test (leb b 7) (λ t. rw t refl) (λ t. rw t (omega (arith, leb-false b 7 t)))

-- ---- a name that is found is spelled; so a text's type is 1..7

text_type : (t : ℕ) → 1 ≤ length (spelled (event (words t))) → (1 ≤ t) × (t ≤ 7)
unfolding spelled event_spelled
text_type zero h = absurd (omega arith)
text_type (suc zero) h = omega arith
text_type (suc (suc zero)) h = omega arith
text_type (suc (suc (suc zero))) h = omega arith
text_type (suc (suc (suc (suc zero)))) h = omega arith
text_type (suc (suc (suc (suc (suc zero))))) h = omega arith
text_type (suc (suc (suc (suc (suc (suc zero)))))) h = omega arith
text_type (suc (suc (suc (suc (suc (suc (suc zero))))))) h = omega arith
text_type (suc (suc (suc (suc (suc (suc (suc (suc t)))))))) h = absurd (omega arith)

abbrev AllSpelled : List RecordName → Type 0
AllSpelled [] = Unit {0}
AllSpelled (n ∷ ns) = (1 ≤ length (spelled n)) × AllSpelled ns

all_spelled : AllSpelled all_names
unfolding spelled event_spelled
all_spelled =
    (omega arith, (omega arith, (omega arith, (omega arith, (omega arith, (omega arith, (omega arith, (omega arith, (omega arith, (omega arith, (omega arith, (omega arith, (omega arith, (omega arith, (omega arith, (omega arith, (omega arith, (omega arith, (omega arith, (omega arith, (omega arith, (omega arith, (omega arith, (omega arith, (omega arith, (omega arith, (omega arith, (omega arith, (omega arith, tt)))))))))))))))))))))))))))))

find_spelled : (s : List ℕ) (ns : List RecordName) (n : RecordName) → AllSpelled ns → find s ns ≡ good n → 1 ≤ length (spelled n)
unfolding find
find_spelled s [] n a e = not_good e
find_spelled s (m ∷ ns) n a e = pick_cases _ _ _ _ e (λ t q. rw (← (good_same q)) a.0) (λ t q. find_spelled s ns n a.1 q)

pub name_spelled : (f : Field) (n : RecordName) → name_from f ≡ good n → 1 ≤ length (spelled n)
unfolding name_from
name_spelled (num k) n e = not_good e
name_spelled (minus k) n e = not_good e
name_spelled (name s) n e = find_spelled s all_names n all_spelled e
name_spelled (quoted d) n e = not_good e

-- ---- each kind fits, and takes few bytes more than its Text or Data

row_fits : (g : EventName) (v : Values) → 1 ≤ length (spelled (event g)) → InColumns (event_shape g).columns v.columns → InTail (event_shape g).tail v.body
    → Fits (kind_named g v) × (data_size (frame (kind_named g v)) ≤ 5 + length v.body)
unfolding event_shape InColumn InTail kind_named Fits frame data_size big_endian bytes_onto
row_fits note_off_name v l h x = let a = nth_in _ v.columns 0 h (omega arith) in let b = nth_in _ v.columns 1 h (omega arith) in let c = nth_in _ v.columns 2 h (omega arith) in omega arith
row_fits note_on_name v l h x = let a = nth_in _ v.columns 0 h (omega arith) in let b = nth_in _ v.columns 1 h (omega arith) in let c = nth_in _ v.columns 2 h (omega arith) in omega arith
row_fits poly_aftertouch_name v l h x = let a = nth_in _ v.columns 0 h (omega arith) in let b = nth_in _ v.columns 1 h (omega arith) in let c = nth_in _ v.columns 2 h (omega arith) in omega arith
row_fits control_change_name v l h x = let a = nth_in _ v.columns 0 h (omega arith) in let b = nth_in _ v.columns 1 h (omega arith) in let c = nth_in _ v.columns 2 h (omega arith) in omega arith
row_fits program_change_name v l h x = let a = nth_in _ v.columns 0 h (omega arith) in let b = nth_in _ v.columns 1 h (omega arith) in omega arith
row_fits channel_aftertouch_name v l h x = let a = nth_in _ v.columns 0 h (omega arith) in let b = nth_in _ v.columns 1 h (omega arith) in omega arith
row_fits pitch_bend_name v l h x = let a = nth_in _ v.columns 0 h (omega arith) in let b = nth_in _ v.columns 1 h (omega arith) in omega arith
row_fits system_exclusive_name v l h d = (d, omega arith)
row_fits system_exclusive_packet_name v l h d = (d, omega arith)
row_fits sequence_number_name v l h x = let a = nth_in _ v.columns 0 h (omega arith) in omega arith
row_fits (words t) v l h d = let y = text_type t l in ((y.0, y.1, d), omega arith)
row_fits channel_prefix_name v l h x = let a = nth_in _ v.columns 0 h (omega arith) in omega arith
row_fits midi_port_name v l h x = let a = nth_in _ v.columns 0 h (omega arith) in omega arith
row_fits end_track_name v l h x = (tt, omega arith)
row_fits set_tempo_name v l h x = let a = nth_in _ v.columns 0 h (omega arith) in omega arith
row_fits smpte_offset_name v l h x = let a = nth_in _ v.columns 0 h (omega arith) in let b = nth_in _ v.columns 1 h (omega arith) in let c = nth_in _ v.columns 2 h (omega arith) in let d = nth_in _ v.columns 3 h (omega arith) in let e = nth_in _ v.columns 4 h (omega arith) in omega arith
row_fits time_signature_name v l h x = let a = nth_in _ v.columns 0 h (omega arith) in let b = nth_in _ v.columns 1 h (omega arith) in let c = nth_in _ v.columns 2 h (omega arith) in let d = nth_in _ v.columns 3 h (omega arith) in omega arith
row_fits key_signature_name v l h x = ((key_fits _ (nth_in _ v.columns 0 h (omega arith)), nth_in _ v.columns 1 h (omega arith)), omega arith)
row_fits sequencer_specific_name v l h d = (d, omega arith)
row_fits unknown_meta_name v l h d = let a = nth_in _ v.columns 0 h (omega arith) in ((a.0, a.1, d), omega arith)

pub kind_fits : (g : EventName) (v : Values) → 1 ≤ length (spelled (event g)) → InColumns (shape (event g)).columns v.columns → InTail (shape (event g)).tail v.body
    → Fits (kind_named g v) × (data_size (frame (kind_named g v)) ≤ 5 + length v.body)
unfolding shape
kind_fits g v l h d = row_fits g v l h d
