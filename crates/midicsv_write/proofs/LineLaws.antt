-- The fields of a record in a row, the parts of a record's line, and how long they are.
use mathlib.Core.Path.{◌≡◌, refl, sym, ap, subst, ◌∙◌}
use Prim.Native.Nat.{ℕ, zero, suc, ◌+◌, ◌*◌, ◌-◌, ◌≤◌, zero-le}
use mathlib.Core.Bool.{Bool, true, ◌&&◌, ◌||◌}
use mathlib.Core.Logic.{inl, inr}
use mathlib.Core.List.{List, [], ◌∷◌, ◌++◌, append_assoc, append-nil}
use native.Mathlib.Omega.{arith}
use denote.Enum.Declared.{tag_of}
use types.Run.{OneOf}
use lib.ListN.{length, get_or, length-append}
use lib.Dec.{leb, ltb, eqb}
use borrow.Author.Tests.{leb-true, ltb-true}
use Rattle.event.specs.Choice.{pick}
use Rattle.event.specs.Event.{Event, Kind, note_off, note_on, poly_aftertouch, control, program, channel_aftertouch, pitch_bend, system_exclusive, system_exclusive_packet, sequence_number, text, channel_prefix, midi_port, end_track, tempo, smpte_offset, time_signature, key_signature, sequencer_specific, unknown_meta}
use Rattle.event.specs.Reader.{key_of}
use Rattle.event.specs.Step.{kind_from}
use Rattle.event.specs.declared.Time.{Time}
use Rattle.event.specs.declared.EventKind.{EventKind}
use Rattle.event.specs.declared.EventKind.TheVariants.{NoteOff, NoteOn, PolyAftertouch, Control, Program, ChannelAftertouch, PitchBend, SystemExclusive, SystemExclusivePacket, SequenceNumber, Text, ChannelPrefix, MidiPort, EndTrack, Tempo, SmpteOffset, TimeSignature, KeySignature, SequencerSpecific, UnknownMeta}
use Rattle.event.specs.contracts.EventKind.{the_type}
use Rattle.event.proofs.ChoiceLaws.{by_test, or_cases, and_both}
use Rattle.event_write.specs.Written.{Written}
use Rattle.event_write.proofs.DataLaws.{data_length}
use Rattle.midicsv.specs.Field.{bytes, digits_of, decimal, Field, num}
use Rattle.midicsv.specs.Show.{Form, gap, show, joined, further, line_of}
use Rattle.midicsv.specs.Table.{EventName, note_off_name, note_on_name, poly_aftertouch_name, control_change_name, program_change_name, channel_aftertouch_name, pitch_bend_name, system_exclusive_name, system_exclusive_packet_name, sequence_number_name, words, channel_prefix_name, midi_port_name, end_track_name, set_tempo_name, smpte_offset_name, time_signature_name, key_signature_name, sequencer_specific_name, unknown_meta_name, start_track, end_of_file, event_spelled, spelled, Column, range, key, mode, free_type, division, Tail, none, one_text, sized, event_shape, shape}
use Rattle.midicsv.specs.Record.{Record, signed_field, column_field, tail_fields, fields_of, record_line, name_of, values_of}
use Rattle.midicsv.specs.Text.{mark, event_record, records_text}
use Rattle.midicsv.proofs.KindAcceptedLaws.{key_same}
use Rattle.midicsv.proofs.FieldLaws.{decimal_length, quote_length, gap_length, data_length as fields-length}
use Rattle.midicsv.proofs.LineBoundLaws.{mode_shown}
use Rattle.midicsv_write.specs.Line.{event_from, column_fields, column_count, body_fields, line, header_for}

-- ---- fields in a row

further_append : (w : Form) (xs ys : List Field) → further w (xs ++ ys) ≡ further w xs ++ further w ys
unfolding further
further_append w [] ys = refl
further_append w (f ∷ xs) ys = ap (λ l. joined w f ++ l) (further_append w xs ys) ∙ sym (append_assoc (joined w f) (further w xs) (further w ys))

-- the last field of a row
pub last_field : {old new : List ℕ} {at next : ℕ} (w : Form) (f : Field) → Written old at (joined w f) new next → Written old at (further w (f ∷ [])) new next
unfolding further
last_field {old} {new} {at} {next} w f x = subst (λ z. Written old at z new next) (sym (append-nil (joined w f))) x

pub number_length : (w : Form) (n : ℕ) → length (joined w (num n)) ≤ 12
unfolding show
number_length w n = simp length-append (omega (arith, decimal_length n, gap_length w))

signed_length : (w : Form) (first all n : ℕ) → length (show w (signed_field first all n)) ≤ 11
unfolding signed_field show pick
signed_length w first all n = by_test (ltb n first) (λ t. rw t (omega (arith, decimal_length n))) (λ t. rw t (omega (arith, decimal_length (all - n))))

column_length : (w : Form) (c : Column) (n : ℕ) → length (show w (column_field c n)) ≤ 11
unfolding column_field show pick
column_length w (range lo hi) n = omega (arith, decimal_length n)
column_length w key b = signed_length w 8 256 b
column_length w mode m = rw (mode_shown w m) (by_test (eqb m 0) (λ t. rw t (omega arith)) (λ t. rw t (omega arith)))
column_length w free_type n = omega (arith, decimal_length n)
column_length w division n = signed_length w 32768 65536 n

pub field_length : (w : Form) (first all n : ℕ) → length (joined w (signed_field first all n)) ≤ 13
field_length w first all n = simp length-append (omega (arith, signed_length w first all n, gap_length w))

-- ---- a key's byte

pub key_fields : (w : Form) (b m : ℕ) → b ≤ 255 → further w (signed_field 8 256 b ∷ column_field mode m ∷ []) ≡ further w (column_fields (key_signature (key_of b) m))
unfolding name_of event_shape values_of fields_of tail_fields column_field
key_fields w b m h = ap (λ z. further w (signed_field 8 256 z ∷ column_field mode m ∷ [])) (sym (key_same b h))

-- ---- the row of an event: its data are in the Text, or the Data, alone

pub record SameRow (body : List ℕ) (k : EventKind) : Type 0 where
  pub names : name_of (kind_from [] k) ≡ name_of (kind_from body k)
  pub columns : column_fields (kind_from [] k) ≡ column_fields (kind_from body k)
  pub data_few : length (values_of (kind_from body k)).body ≤ length body

pub same_row : (body : List ℕ) (k : EventKind) → SameRow body k
unfolding kind_from name_of event_shape values_of fields_of tail_fields
same_row body (NoteOff a b c) = record { names = refl; columns = refl; data_few = zero-le }
same_row body (NoteOn a b c) = record { names = refl; columns = refl; data_few = zero-le }
same_row body (PolyAftertouch a b c) = record { names = refl; columns = refl; data_few = zero-le }
same_row body (Control a b c) = record { names = refl; columns = refl; data_few = zero-le }
same_row body (Program a b) = record { names = refl; columns = refl; data_few = zero-le }
same_row body (ChannelAftertouch a b) = record { names = refl; columns = refl; data_few = zero-le }
same_row body (PitchBend a b) = record { names = refl; columns = refl; data_few = zero-le }
same_row body (SystemExclusive a b) = record { names = refl; columns = refl; data_few = data_length body a b }
same_row body (SystemExclusivePacket a b) = record { names = refl; columns = refl; data_few = data_length body a b }
same_row body (SequenceNumber a) = record { names = refl; columns = refl; data_few = zero-le }
same_row body (Text t a b) = record { names = refl; columns = refl; data_few = data_length body a b }
same_row body (ChannelPrefix a) = record { names = refl; columns = refl; data_few = zero-le }
same_row body (MidiPort a) = record { names = refl; columns = refl; data_few = zero-le }
same_row body EndTrack = record { names = refl; columns = refl; data_few = zero-le }
same_row body (Tempo a) = record { names = refl; columns = refl; data_few = zero-le }
same_row body (SmpteOffset a b c d e) = record { names = refl; columns = refl; data_few = zero-le }
same_row body (TimeSignature a b c d) = record { names = refl; columns = refl; data_few = zero-le }
same_row body (KeySignature a b) = record { names = refl; columns = refl; data_few = zero-le }
same_row body (SequencerSpecific a b) = record { names = refl; columns = refl; data_few = data_length body a b }
same_row body (UnknownMeta t a b) = record { names = refl; columns = refl; data_few = data_length body a b }

-- its fields are those of its columns, then those of its Text or Data
row_fields_lem : (k : Kind) → fields_of (event_shape (name_of k)).columns (event_shape (name_of k)).tail (values_of k).columns (values_of k).body ≡ column_fields k ++ body_fields k
unfolding name_of event_shape values_of fields_of tail_fields
row_fields_lem (note_off c n v) = refl
row_fields_lem (note_on c n v) = refl
row_fields_lem (poly_aftertouch c n v) = refl
row_fields_lem (control c n v) = refl
row_fields_lem (program c p) = refl
row_fields_lem (channel_aftertouch c v) = refl
row_fields_lem (pitch_bend c v) = refl
row_fields_lem (system_exclusive d) = refl
row_fields_lem (system_exclusive_packet d) = refl
row_fields_lem (sequence_number n) = refl
row_fields_lem (text t d) = refl
row_fields_lem (channel_prefix n) = refl
row_fields_lem (midi_port n) = refl
row_fields_lem end_track = refl
row_fields_lem (tempo n) = refl
row_fields_lem (smpte_offset h m s f u) = refl
row_fields_lem (time_signature n d c b) = refl
row_fields_lem (key_signature n m) = refl
row_fields_lem (sequencer_specific d) = refl
row_fields_lem (unknown_meta t d) = refl

text_name : (t : ℕ) → length (event_spelled (words t)) ≤ 23
unfolding event_spelled
text_name zero = omega arith
text_name (suc zero) = omega arith
text_name (suc (suc zero)) = omega arith
text_name (suc (suc (suc zero))) = omega arith
text_name (suc (suc (suc (suc zero)))) = omega arith
text_name (suc (suc (suc (suc (suc zero))))) = omega arith
text_name (suc (suc (suc (suc (suc (suc zero)))))) = omega arith
text_name (suc (suc (suc (suc (suc (suc (suc zero))))))) = omega arith
text_name (suc (suc (suc (suc (suc (suc (suc (suc t)))))))) = omega arith

few : (g : EventName) → (length (event_spelled g) ≤ 23) × (length (event_shape g).columns ≤ 5)
unfolding event_spelled event_shape
few note_off_name = omega arith
few note_on_name = omega arith
few poly_aftertouch_name = omega arith
few control_change_name = omega arith
few program_change_name = omega arith
few channel_aftertouch_name = omega arith
few pitch_bend_name = omega arith
few system_exclusive_name = omega arith
few system_exclusive_packet_name = omega arith
few sequence_number_name = omega arith
few (words t) = (text_name t, omega arith)
few channel_prefix_name = omega arith
few midi_port_name = omega arith
few end_track_name = omega arith
few set_tempo_name = omega arith
few smpte_offset_name = omega arith
few time_signature_name = omega arith
few key_signature_name = omega arith
few sequencer_specific_name = omega arith
few unknown_meta_name = omega arith

-- ---- how long its parts can be

pub name_length : (k : Kind) → length (event_spelled (name_of k)) ≤ 23
name_length k = (few (name_of k)).0

row_length : (w : Form) (cs : List Column) (ns : List ℕ) → length (further w (fields_of cs none ns [])) ≤ 13 * length cs
unfolding fields_of tail_fields further
row_length w [] ns = omega arith
row_length w (c ∷ cs) [] = omega arith
row_length w (c ∷ cs) (n ∷ ns) = let h = row_length w cs ns in simp length-append (omega (arith, column_length w c n, gap_length w))

pub columns_length : (w : Form) (k : Kind) → length (further w (column_fields k)) ≤ 65
columns_length w k = omega (arith, row_length w (event_shape (name_of k)).columns (values_of k).columns, (few (name_of k)).1)

tail_length : (w : Form) (t : Tail) (d : List ℕ) → length (further w (tail_fields t d)) ≤ 12 + 12 * length d
unfolding tail_fields further show
tail_length w none d = omega arith
tail_length w one_text d = simp length-append (omega (arith, quote_length w d, gap_length w))
tail_length w sized d = simp length-append (omega (arith, decimal_length (length d), fields-length w d, gap_length w))

pub body_length : (w : Form) (body : List ℕ) (k : EventKind) → length (further w (body_fields (kind_from body k))) ≤ 12 + 12 * length body
body_length w body k = omega (arith, tail_length w (event_shape (name_of (kind_from body k))).tail (values_of (kind_from body k)).body, (same_row body k).data_few)

-- ---- lines

-- Track and Time, to where the name begins
abbrev pub start_of : Form → ℕ → ℕ → List ℕ
start_of w track time = decimal track ++ joined w (num time) ++ gap w

pub start_length : (w : Form) (track time : ℕ) → length (start_of w track time) ≤ 24
unfolding show
start_length w track time = simp length-append (omega (arith, decimal_length track, decimal_length time, gap_length w))

-- the parts of a line, one after the other
named_line : (w : Form) (r : Record) → start_of w r.track r.time ++ (spelled r.name ++ (further w (fields_of (shape r.name).columns (shape r.name).tail r.values.columns r.values.body) ++ (10 ∷ []))) ≡ line w r
unfolding records_text record_line line_of further show
named_line w r = simp append_assoc

pub start_line : (w : Form) (n : ℕ) → start_of w n 0 ++ bytes "Start_track\n" ≡ line w (mark start_track n)
unfolding further spelled shape fields_of tail_fields
start_line w n = named_line w (mark start_track n)

pub end_line : (w : Form) → start_of w 0 0 ++ bytes "End_of_file\n" ≡ line w (mark end_of_file 0)
unfolding further spelled shape fields_of tail_fields
end_line w = named_line w (mark end_of_file 0)

three_fields : (w : Form) (f g h : Field) (l : List ℕ) → joined w f ++ (joined w g ++ (joined w h ++ l)) ≡ further w (f ∷ g ∷ h ∷ []) ++ l
unfolding further
three_fields w f g h l = simp (append_assoc, append-nil)

pub header_line : (w : Form) (a b c : ℕ) → start_of w 0 0 ++ (bytes "Header" ++ (joined w (num a) ++ (joined w (num b) ++ (joined w (signed_field 32768 65536 c) ++ (10 ∷ []))))) ≡ line w (header_for a b c)
unfolding spelled shape fields_of tail_fields column_field
header_line w a b c =
    ap (λ z. start_of w 0 0 ++ (bytes "Header" ++ z)) (three_fields w (num a) (num b) (signed_field 32768 65536 c) (10 ∷ [])) ∙ named_line w (header_for a b c)

zero_length : length (decimal 0) ≡ 1
unfolding decimal digits_of pick
zero_length = refl

pub start_line_length : (w : Form) (n : ℕ) → length (line w (mark start_track n)) ≤ 28
unfolding show
start_line_length w n = rw (← start_line w n) (simp length-append (omega (arith, decimal_length n, zero_length, gap_length w)))

pub header_line_length : (w : Form) (a b c : ℕ) → length (line w (header_for a b c)) ≤ 50
unfolding show
header_line_length w a b c =
    rw (← header_line w a b c) (simp length-append (omega (arith, zero_length, decimal_length a, decimal_length b, gap_length w, signed_length w 32768 65536 c)))

whole_line : (w : Form) (track : ℕ) (e : Event) → start_of w track e.time ++ (event_spelled (name_of e.kind) ++ (further w (column_fields e.kind) ++ (further w (body_fields e.kind) ++ (10 ∷ []))))
    ≡ line w (event_record track e)
unfolding spelled shape event_record
whole_line w track e =
    let k = e.kind in
    let c : List ℕ = further w (column_fields k) in
    let b : List ℕ = further w (body_fields k) in
    let same = ap (further w) (row_fields_lem k) ∙ further_append w (column_fields k) (body_fields k) in
    ap (λ z. start_of w track e.time ++ (event_spelled (name_of k) ++ z)) (sym (append_assoc c b (10 ∷ [])) ∙ ap (λ z. z ++ (10 ∷ [])) (sym same))
    ∙ named_line w (event_record track e)

pub event_line : (w : Form) (track : ℕ) (t : Time) (body : List ℕ) (k : EventKind)
    → start_of w track t.0 ++ (event_spelled (name_of (kind_from [] k)) ++ (further w (column_fields (kind_from [] k)) ++ (further w (body_fields (kind_from body k)) ++ (10 ∷ []))))
    ≡ line w (event_record track (event_from t body k))
event_line w track t body k = rw ((same_row body k).columns, (same_row body k).names) (whole_line w track (event_from t body k))

-- ---- the number of columns, by the tags of the code's enum

abbrev column_counts : List ℕ
column_counts = 3 ∷ 3 ∷ 3 ∷ 3 ∷ 2 ∷ 2 ∷ 2 ∷ 0 ∷ 0 ∷ 1 ∷ 0 ∷ 1 ∷ 1 ∷ 0 ∷ 1 ∷ 5 ∷ 4 ∷ 2 ∷ 0 ∷ 1 ∷ []

tag_count : (k : EventKind) → column_count k ≡ get_or column_counts (tag_of the_type k) 0
unfolding kind_from name_of event_shape values_of fields_of tail_fields
tag_count (NoteOff a b c) = refl
tag_count (NoteOn a b c) = refl
tag_count (PolyAftertouch a b c) = refl
tag_count (Control a b c) = refl
tag_count (Program a b) = refl
tag_count (ChannelAftertouch a b) = refl
tag_count (PitchBend a b) = refl
tag_count (SystemExclusive a b) = refl
tag_count (SystemExclusivePacket a b) = refl
tag_count (SequenceNumber a) = refl
tag_count (Text t a b) = refl
tag_count (ChannelPrefix a) = refl
tag_count (MidiPort a) = refl
tag_count EndTrack = refl
tag_count (Tempo a) = refl
tag_count (SmpteOffset a b c d e) = refl
tag_count (TimeSignature a b c d) = refl
tag_count (KeySignature a b) = refl
tag_count (SequencerSpecific a b) = refl
tag_count (UnknownMeta t a b) = refl

abbrev all_of : (ℕ → Bool) → List ℕ → Bool
all_of p [] = true
all_of p (t ∷ ts) = p t && all_of p ts

one_of : (p : ℕ → Bool) (ts : List ℕ) (t : ℕ) → all_of p ts ≡ true → OneOf ts t → p t ≡ true
one_of p [] t e h = absurd h
one_of p (x ∷ []) t e h = ap p h ∙ (and_both (p x) true e).0
one_of p (x ∷ y ∷ ts) t e (inl h) = ap p h ∙ (and_both (p x) _ e).0
one_of p (x ∷ y ∷ ts) t e (inr h) = one_of p (y ∷ ts) t (and_both (p x) _ e).1 h

-- a tag with at most n columns, or more than m
abbrev Fewer : ℕ → ℕ → ℕ → Bool
Fewer n m t = leb (get_or column_counts t 0) n || ltb m (get_or column_counts t 0)

fewer : (n m : ℕ) (ts : List ℕ) (k : EventKind) → all_of (Fewer n m) ts ≡ true → OneOf ts (tag_of the_type k) → column_count k ≤ m → column_count k ≤ n
fewer n m ts k e h most =
    let told : (leb (column_count k) n || ltb m (column_count k)) ≡ true = ap (λ c. leb c n || ltb m c) (tag_count k) ∙ one_of (Fewer n m) ts (tag_of the_type k) e h in
    or_cases (leb (column_count k) n) (ltb m (column_count k)) told (λ t. leb-true (column_count k) n t) (λ t. absurd (omega (arith, ltb-true m (column_count k) t)))
