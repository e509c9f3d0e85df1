-- The event of a row that was read is the record's: its kind, its bytes in a manner, the status after it, whether it ends the track.
use mathlib.Core.Path.{◌≡◌, refl, sym, ap, ◌∙◌}
use Prim.Native.Nat.{ℕ, ◌+◌, ◌-◌, ◌%◌, ◌<◌, ◌≤◌}
use mathlib.Core.List.{List, [], ◌∷◌, ◌++◌}
use mathlib.Core.Logic.{inl, inr}
use native.Mathlib.Omega.{arith}
use lib.ListN.{length, get_or, take, drop, length-append}
use Rattle.std.proofs.lemmas.List.{get_or-take}
use Rattle.event.specs.Event.{Event, Fits, is_end}
use Rattle.event.specs.Frame.{frame, after}
use Rattle.event.specs.Layout.{lay_event}
use Rattle.event.specs.Manner.{Manner, spell_event}
use Rattle.event.specs.Step.{kind_at, end_of}
use Rattle.event.specs.declared.EventKind.{EventKind}
use Rattle.event.specs.declared.EventKind.TheVariants.{SystemExclusive, SystemExclusivePacket, Text, KeySignature, SequencerSpecific, UnknownMeta}
use Rattle.event_write.specs.Head.{head_bytes, data_of}
use Rattle.event_write.proofs.HeadLaws.{event_bytes}
use Rattle.event_write.proofs.DataLaws.{head_length}
use Rattle.midicsv.specs.Table.{EventName, note_off_name, note_on_name, poly_aftertouch_name, control_change_name, program_change_name, channel_aftertouch_name, pitch_bend_name, system_exclusive_name, system_exclusive_packet_name, sequence_number_name, words, channel_prefix_name, midi_port_name, end_track_name, set_tempo_name, smpte_offset_name, time_signature_name, key_signature_name, sequencer_specific_name, unknown_meta_name, RecordName, header, start_track, end_of_file, event, spelled, Column, range, key, mode, free_type, division, Tail, none, one_text, sized, event_shape, shape}
use Rattle.midicsv.specs.Record.{Values}
use Rattle.midicsv.specs.ReadField.{plain}
use Rattle.midicsv.specs.KindOf.{kind_named}
use Rattle.midicsv.proofs.RowLaws.{InColumn, InColumns, InTail}
use Rattle.midicsv.proofs.KindAcceptedLaws.{nth_in, key_same, kind_fits}
use Rattle.midicsv.proofs.LayableLaws.{Layable, one_permitted}
use Rattle.midicsv_record.specs.Name.{name_at}
use Rattle.midicsv_record.specs.Row.{body_in}
use Rattle.midicsv_read.specs.RowEvent.{event_kind, kind_numbered, row_kind, row_body, row_bytes, status_after}
use Rattle.midicsv_record.specs.declared.Row.{Row}
use Rattle.midicsv_read.proofs.QuotedLaws.{unquoted_most}
use Rattle.midicsv_read.proofs.DataLaws.{data_count}

-- ---- a number past the columns is not looked at

nth_cut : (n i : ℕ) (ns : List ℕ) → i < n → get_or (take n ns) i 0 ≡ get_or ns i 0
nth_cut n i ns h = get_or-take n ns i 0 h

event_cut : (g : EventName) (ns : List ℕ) (start len : ℕ) → event_kind g (take (length (event_shape g).columns) ns) start len ≡ event_kind g ns start len
unfolding event_shape event_kind
event_cut note_off_name ns start len = rw (nth_cut 3 0 ns (omega arith), nth_cut 3 1 ns (omega arith), nth_cut 3 2 ns (omega arith)) refl
event_cut note_on_name ns start len = rw (nth_cut 3 0 ns (omega arith), nth_cut 3 1 ns (omega arith), nth_cut 3 2 ns (omega arith)) refl
event_cut poly_aftertouch_name ns start len = rw (nth_cut 3 0 ns (omega arith), nth_cut 3 1 ns (omega arith), nth_cut 3 2 ns (omega arith)) refl
event_cut control_change_name ns start len = rw (nth_cut 3 0 ns (omega arith), nth_cut 3 1 ns (omega arith), nth_cut 3 2 ns (omega arith)) refl
event_cut program_change_name ns start len = rw (nth_cut 2 0 ns (omega arith), nth_cut 2 1 ns (omega arith)) refl
event_cut channel_aftertouch_name ns start len = rw (nth_cut 2 0 ns (omega arith), nth_cut 2 1 ns (omega arith)) refl
event_cut pitch_bend_name ns start len = rw (nth_cut 2 0 ns (omega arith), nth_cut 2 1 ns (omega arith)) refl
event_cut system_exclusive_name ns start len = refl
event_cut system_exclusive_packet_name ns start len = refl
event_cut sequence_number_name ns start len = rw (nth_cut 1 0 ns (omega arith)) refl
event_cut (words t) ns start len = refl
event_cut channel_prefix_name ns start len = rw (nth_cut 1 0 ns (omega arith)) refl
event_cut midi_port_name ns start len = rw (nth_cut 1 0 ns (omega arith)) refl
event_cut end_track_name ns start len = refl
event_cut set_tempo_name ns start len = rw (nth_cut 1 0 ns (omega arith)) refl
event_cut smpte_offset_name ns start len = rw (nth_cut 5 0 ns (omega arith), nth_cut 5 1 ns (omega arith), nth_cut 5 2 ns (omega arith), nth_cut 5 3 ns (omega arith), nth_cut 5 4 ns (omega arith)) refl
event_cut time_signature_name ns start len = rw (nth_cut 4 0 ns (omega arith), nth_cut 4 1 ns (omega arith), nth_cut 4 2 ns (omega arith), nth_cut 4 3 ns (omega arith)) refl
event_cut key_signature_name ns start len = rw (nth_cut 2 0 ns (omega arith), nth_cut 2 1 ns (omega arith)) refl
event_cut sequencer_specific_name ns start len = refl
event_cut unknown_meta_name ns start len = rw (nth_cut 1 0 ns (omega arith)) refl

pub kind_cut : (n : RecordName) (ns : List ℕ) (start len : ℕ) → kind_numbered n (take (length (shape n).columns) ns) start len ≡ kind_numbered n ns start len
unfolding shape kind_numbered
kind_cut header ns start len = refl
kind_cut start_track ns start len = refl
kind_cut end_of_file ns start len = refl
kind_cut (event g) ns start len = event_cut g ns start len

-- ---- of a number in its range nothing is cut

-- a column of bytes
unfoldable Narrow : Column → Type 0
Narrow (range lo hi) = hi ≤ 255
Narrow key = Unit {0}
Narrow mode = Unit {0}
Narrow free_type = Unit {0}
Narrow division = ⊥

narrow : (c : Column) (n : ℕ) → Narrow c → InColumn c n → n % 256 ≡ n
unfolding Narrow InColumn
narrow (range lo hi) n h i = omega arith
narrow key n h (inl i) = omega arith
narrow key n h (inr i) = omega arith
narrow mode n h i = omega arith
narrow free_type n h i = omega (arith, i.0)
narrow division n h i = absurd h

-- the i-th number, of such a column
byte_is : (cs : List Column) (ns : List ℕ) (i : ℕ) → InColumns cs ns → i < length cs → Narrow (get_or cs i (range 0 0)) → get_or ns i 0 % 256 ≡ get_or ns i 0
byte_is cs ns i h l n = narrow (get_or cs i (range 0 0)) (get_or ns i 0) n (nth_in cs ns i h l)

-- the value of Pitch_bend_c
bend_is : (ns : List ℕ) → InColumns (range 0 15 ∷ range 0 16383 ∷ []) ns → get_or ns 1 0 % 65536 ≡ get_or ns 1 0
unfolding InColumn
bend_is ns h = omega (arith, nth_in (range 0 15 ∷ range 0 16383 ∷ []) ns 1 h (omega arith))

-- the channel
nibble_is : (cs : List Column) (ns : List ℕ) → InColumns (range 0 15 ∷ cs) ns → get_or ns 0 0 % 256 % 16 ≡ get_or ns 0 0
unfolding InColumn
nibble_is cs ns h = omega (arith, nth_in (range 0 15 ∷ cs) ns 0 h (omega arith))

text_low : (t : ℕ) → 1 ≤ length (spelled (event (words t))) → t % 256 ≡ t
unfolding shape event_shape InColumns InTail kind_named Fits
text_low t h = let f = kind_fits (words t) (record { columns = []; body = [] }) h tt tt in omega (arith, f.0.1)

-- the place of data that end before the place next
from_end : (start n : ℕ) → start ≡ start + n - n
from_end start n = omega arith

-- ---- the kind

pub row_kind_lem : (g : EventName) (v : Values) (start : ℕ) → 1 ≤ length (spelled (event g)) → InColumns (shape (event g)).columns v.columns
    → event_kind g v.columns start (length v.body) ≡ kind_at (start + length v.body) (kind_named g v)
unfolding shape event_shape event_kind kind_named kind_at Narrow
row_kind_lem note_off_name v start l h = rw (byte_is _ v.columns 0 h (omega arith) (omega arith), byte_is _ v.columns 1 h (omega arith) (omega arith), byte_is _ v.columns 2 h (omega arith) (omega arith))
row_kind_lem note_on_name v start l h = rw (byte_is _ v.columns 0 h (omega arith) (omega arith), byte_is _ v.columns 1 h (omega arith) (omega arith), byte_is _ v.columns 2 h (omega arith) (omega arith))
row_kind_lem poly_aftertouch_name v start l h = rw (byte_is _ v.columns 0 h (omega arith) (omega arith), byte_is _ v.columns 1 h (omega arith) (omega arith), byte_is _ v.columns 2 h (omega arith) (omega arith))
row_kind_lem control_change_name v start l h = rw (byte_is _ v.columns 0 h (omega arith) (omega arith), byte_is _ v.columns 1 h (omega arith) (omega arith), byte_is _ v.columns 2 h (omega arith) (omega arith))
row_kind_lem program_change_name v start l h = rw (byte_is _ v.columns 0 h (omega arith) (omega arith), byte_is _ v.columns 1 h (omega arith) (omega arith))
row_kind_lem channel_aftertouch_name v start l h = rw (byte_is _ v.columns 0 h (omega arith) (omega arith), byte_is _ v.columns 1 h (omega arith) (omega arith))
row_kind_lem pitch_bend_name v start l h = rw (byte_is _ v.columns 0 h (omega arith) (omega arith), bend_is v.columns h)
row_kind_lem system_exclusive_name v start l h = ap (λ z. SystemExclusive z (length v.body)) (from_end start (length v.body))
row_kind_lem system_exclusive_packet_name v start l h = ap (λ z. SystemExclusivePacket z (length v.body)) (from_end start (length v.body))
row_kind_lem sequence_number_name v start l h = refl
row_kind_lem (words t) v start l h = rw (text_low t l) (ap (λ z. Text t z (length v.body)) (from_end start (length v.body)))
row_kind_lem channel_prefix_name v start l h = rw (byte_is _ v.columns 0 h (omega arith) (omega arith))
row_kind_lem midi_port_name v start l h = rw (byte_is _ v.columns 0 h (omega arith) (omega arith))
row_kind_lem end_track_name v start l h = refl
row_kind_lem set_tempo_name v start l h = refl
row_kind_lem smpte_offset_name v start l h = rw (byte_is _ v.columns 0 h (omega arith) (omega arith), byte_is _ v.columns 1 h (omega arith) (omega arith), byte_is _ v.columns 2 h (omega arith) (omega arith), byte_is _ v.columns 3 h (omega arith) (omega arith), byte_is _ v.columns 4 h (omega arith) (omega arith))
row_kind_lem time_signature_name v start l h = rw (byte_is _ v.columns 0 h (omega arith) (omega arith), byte_is _ v.columns 1 h (omega arith) (omega arith), byte_is _ v.columns 2 h (omega arith) (omega arith), byte_is _ v.columns 3 h (omega arith) (omega arith))
row_kind_lem key_signature_name v start l h =
    let a : get_or v.columns 0 0 % 256 ≡ get_or v.columns 0 0 = byte_is _ v.columns 0 h (omega arith) tt in
    rw (a, byte_is _ v.columns 1 h (omega arith) tt) (ap (λ z. KeySignature z (get_or v.columns 1 0)) (sym (key_same (get_or v.columns 0 0) (omega (arith, a)))))
row_kind_lem sequencer_specific_name v start l h = ap (λ z. SequencerSpecific z (length v.body)) (from_end start (length v.body))
row_kind_lem unknown_meta_name v start l h =
    rw (byte_is _ v.columns 0 h (omega arith) tt) (ap (λ z. UnknownMeta (get_or v.columns 0 0) z (length v.body)) (from_end start (length v.body)))

-- ---- its bytes

-- the data that follow the head are the Text or Data
body_is : (g : EventName) (v : Values) → InTail (shape (event g)).tail v.body → v.body ≡ data_of (kind_named g v)
unfolding shape event_shape InTail kind_named data_of
body_is note_off_name v h = h
body_is note_on_name v h = h
body_is poly_aftertouch_name v h = h
body_is control_change_name v h = h
body_is program_change_name v h = h
body_is channel_aftertouch_name v h = h
body_is pitch_bend_name v h = h
body_is system_exclusive_name v h = refl
body_is system_exclusive_packet_name v h = refl
body_is sequence_number_name v h = h
body_is (words t) v h = refl
body_is channel_prefix_name v h = h
body_is midi_port_name v h = h
body_is end_track_name v h = h
body_is set_tempo_name v h = h
body_is smpte_offset_name v h = h
body_is time_signature_name v h = h
body_is key_signature_name v h = h
body_is sequencer_specific_name v h = refl
body_is unknown_meta_name v h = refl

pub row_event : (m : Manner) (prev force time : ℕ) (g : EventName) (v : Values) (start : ℕ) → 1 ≤ length (spelled (event g))
    → InColumns (shape (event g)).columns v.columns → InTail (shape (event g)).tail v.body → Layable prev (record { time = time; kind = kind_named g v })
    → head_bytes m force (time - prev) (event_kind g v.columns start (length v.body)) ++ v.body
    ≡ lay_event prev (record { time = time; kind = kind_named g v }) (spell_event m prev force (record { time = time; kind = kind_named g v }))
row_event m prev force time g v start l h t w =
    let e : Event = record { time = time; kind = kind_named g v } in
    rw (row_kind_lem g v start l h)
    (ap (λ z. head_bytes m force (time - prev) (kind_at (start + length v.body) (kind_named g v)) ++ z) (body_is g v t)
    ∙ sym (event_bytes m prev force (start + length v.body) e w.lawful (spell_event m prev force e) (one_permitted m prev force e w)))

-- ---- the status after it

pub status_row : (g : EventName) (v : Values) (start len : ℕ) → InColumns (shape (event g)).columns v.columns
    → status_after (event_kind g v.columns start len) ≡ after (frame (kind_named g v))
unfolding shape event_shape event_kind kind_named status_after frame after
status_row note_off_name v start len h = ap (λ z. 0x80 + z) (nibble_is _ v.columns h)
status_row note_on_name v start len h = ap (λ z. 0x90 + z) (nibble_is _ v.columns h)
status_row poly_aftertouch_name v start len h = ap (λ z. 0xa0 + z) (nibble_is _ v.columns h)
status_row control_change_name v start len h = ap (λ z. 0xb0 + z) (nibble_is _ v.columns h)
status_row program_change_name v start len h = ap (λ z. 0xc0 + z) (nibble_is _ v.columns h)
status_row channel_aftertouch_name v start len h = ap (λ z. 0xd0 + z) (nibble_is _ v.columns h)
status_row pitch_bend_name v start len h = ap (λ z. 0xe0 + z) (nibble_is _ v.columns h)
status_row system_exclusive_name v start len h = refl
status_row system_exclusive_packet_name v start len h = refl
status_row sequence_number_name v start len h = refl
status_row (words t) v start len h = refl
status_row channel_prefix_name v start len h = refl
status_row midi_port_name v start len h = refl
status_row end_track_name v start len h = refl
status_row set_tempo_name v start len h = refl
status_row smpte_offset_name v start len h = refl
status_row time_signature_name v start len h = refl
status_row key_signature_name v start len h = refl
status_row sequencer_specific_name v start len h = refl
status_row unknown_meta_name v start len h = refl

-- ---- whether it ends the track

pub end_row : (g : EventName) (ns : List ℕ) (v : Values) (start len : ℕ) → end_of (event_kind g ns start len) ≡ is_end (kind_named g v)
unfolding event_kind kind_named is_end
end_row note_off_name ns v start len = refl
end_row note_on_name ns v start len = refl
end_row poly_aftertouch_name ns v start len = refl
end_row control_change_name ns v start len = refl
end_row program_change_name ns v start len = refl
end_row channel_aftertouch_name ns v start len = refl
end_row pitch_bend_name ns v start len = refl
end_row system_exclusive_name ns v start len = refl
end_row system_exclusive_packet_name ns v start len = refl
end_row sequence_number_name ns v start len = refl
end_row (words t) ns v start len = refl
end_row channel_prefix_name ns v start len = refl
end_row midi_port_name ns v start len = refl
end_row end_track_name ns v start len = refl
end_row set_tempo_name ns v start len = refl
end_row smpte_offset_name ns v start len = refl
end_row time_signature_name ns v start len = refl
end_row key_signature_name ns v start len = refl
end_row sequencer_specific_name ns v start len = refl
end_row unknown_meta_name ns v start len = refl

-- ---- how long it can be

body_most : (t : Tail) (l : List ℕ) (start len : ℕ) → len ≤ length l → length (body_in t l start len) ≤ length l
unfolding body_in
body_most none l start len h = omega arith
body_most one_text l start len h = unquoted_most l start plain
body_most sized l start len h = omega (arith, data_count len (drop start l))

pub row_length : (m : Manner) (force delta : ℕ) (l : List ℕ) (r : Row) → r.start ≤ length l → r.len ≤ length l → length (row_bytes m force delta l r) ≤ 15 + length l
row_length m force delta l r a b =
    let k : EventKind = row_kind r (length (row_body l r)) in
    omega (arith, length-append (head_bytes m force delta k) (row_body l r), head_length m force delta k, body_most (shape (name_at r.name)).tail l r.start r.len b)
