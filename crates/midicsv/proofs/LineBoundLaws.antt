-- How long the line of a record can be.
use mathlib.Core.Path.{◌≡◌, refl}
use Prim.Native.Nat.{ℕ, zero, suc, ◌+◌, ◌-◌, ◌*◌, ◌/◌, ◌<◌, ◌≤◌}
use mathlib.Core.List.{List, [], ◌∷◌}
use mathlib.Core.Logic.{inl, inr}
use native.Mathlib.Omega.{arith}
use lib.ListN.{length, length-append}
use lib.Dec.{ltb, eqb}
use borrow.Author.Tests.{lt-ltb, le-ltb, ltb-false}
use Rattle.event.specs.Choice.{pick}
use Rattle.event.specs.Bytes.{Bytes}
use Rattle.event.proofs.ChoiceLaws.{by_test}
use Rattle.smf.proofs.DivisionLaws.{EitherKind, division_kinds}
use Rattle.midicsv.specs.Field.{bytes, digits_of, decimal, in_octal, escape, escape_all, Field}
use Rattle.midicsv.specs.Names.{lower, same_name}
use Rattle.midicsv.specs.ReadField.{is_letter}
use Rattle.midicsv.specs.TruthWords.{truth_words}
use Rattle.midicsv.specs.Spell.{or_octal, is_solid, stands_inside, stands_last, unblanked, listed, is_truth, spell_rest, spell_short, spell_text}
use Rattle.midicsv.specs.Show.{Form, as_text, as_sheet, gap, spell_in, quote, show, further, line_of}
use Rattle.midicsv.specs.Table.{RecordName, spelled, Column, range, key, mode, free_type, division, Tail, none, one_text, sized, shape}
use Rattle.midicsv.specs.Record.{Record, signed_field, column_field, data_fields, tail_fields, fields_of, record_line}
use Rattle.midicsv.proofs.FieldLaws.{digits_most, decimal_length, quote_length}
use Rattle.midicsv.proofs.RowLaws.{InColumn, InColumns, InTail}

-- ---- numbers

-- a smaller number has no more digits
pub digits_mono : (j n m : ℕ) → n ≤ m → length (digits_of j n) ≤ length (digits_of j m)
unfolding digits_of pick
digits_mono zero n m h = omega arith
digits_mono (suc j) n m h =
    by_test (ltb n 10)
    (λ t. rw t (omega (arith, digits_most (suc j) m)))
    (λ t.
    let hn : 10 ≤ n = ltb-false n 10 t in
    let q = digits_mono j (n / 10) (m / 10) (omega arith) in
    rw (t, le-ltb m 10 (omega arith)) (simp length-append (omega arith)))

pub decimal_mono : (n m : ℕ) → n ≤ m → length (decimal n) ≤ length (decimal m)
unfolding decimal
decimal_mono n m h = digits_mono 9 n m h

pub track_cost : (n : ℕ) → n ≤ 65535 → length (decimal n) ≤ 5
unfolding decimal digits_of pick
track_cost n h = omega (arith, decimal_mono n 65535 h)

pub byte_cost : (n : ℕ) → n ≤ 255 → length (decimal n) ≤ 3
unfolding decimal digits_of pick
byte_cost n h = omega (arith, decimal_mono n 255 h)

pub key_cost : (n : ℕ) → n ≤ 7 → length (decimal n) ≤ 1
unfolding decimal digits_of pick
key_cost n h = omega (arith, decimal_mono n 7 h)

frames_cost : (n : ℕ) → n ≤ 9999 → length (decimal n) ≤ 4
unfolding decimal digits_of pick
frames_cost n h = omega (arith, decimal_mono n 9999 h)

-- ---- fields

-- the bytes between two fields
unfoldable pub gap_cost : Form → ℕ
gap_cost as_text = 2
gap_cost as_sheet = 1

unfoldable pub column_cost : Column → ℕ
column_cost (range lo hi) = length (decimal hi)
column_cost key = 2
column_cost mode = 7
column_cost free_type = 3
column_cost division = 5

unfoldable pub columns_cost : Form → List Column → ℕ
columns_cost w [] = 0
columns_cost w (c ∷ cs) = gap_cost w + column_cost c + columns_cost w cs

unfoldable pub tail_cost : Form → Tail → ℕ → ℕ
tail_cost w none n = 0
tail_cost w one_text n = gap_cost w + 2 + 4 * n
tail_cost as_text sized n = 12 + 5 * n
tail_cost as_sheet sized n = 11 + 4 * n

gap_cost_lem : (w : Form) → length (gap w) ≡ gap_cost w
unfolding gap gap_cost
gap_cost_lem as_text = refl
gap_cost_lem as_sheet = refl

-- "major" and "minor" are spelled as they are
major_shown : (w : Form) → quote w (bytes "major") ≡ bytes "\"major\""
unfolding quote spell_in escape_all escape in_octal spell_text spell_short spell_rest or_octal stands_inside stands_last is_solid is_letter is_truth unblanked truth_words listed same_name lower pick
major_shown as_text = refl
major_shown as_sheet = refl

minor_shown : (w : Form) → quote w (bytes "minor") ≡ bytes "\"minor\""
unfolding quote spell_in escape_all escape in_octal spell_text spell_short spell_rest or_octal stands_inside stands_last is_solid is_letter is_truth unblanked truth_words listed same_name lower pick
minor_shown as_text = refl
minor_shown as_sheet = refl

pub mode_shown : (w : Form) (m : ℕ) → show w (column_field mode m) ≡ pick (eqb m 0) (bytes "\"major\"") (bytes "\"minor\"")
unfolding show column_field pick
mode_shown w m = by_test (eqb m 0) (λ t. rw t (major_shown w)) (λ t. rw t (minor_shown w))

mode_cost : (w : Form) (m : ℕ) → length (show w (column_field mode m)) ≤ 7
unfolding pick
mode_cost w m = rw (mode_shown w m) (by_test (eqb m 0) (λ t. rw t (omega arith)) (λ t. rw t (omega arith)))

signed_plus : (w : Form) (first all n : ℕ) → n < first → show w (signed_field first all n) ≡ decimal n
unfolding show signed_field pick
signed_plus w first all n h = rw (lt-ltb n first h) refl

signed_minus : (w : Form) (first all n : ℕ) → first ≤ n → show w (signed_field first all n) ≡ 45 ∷ decimal (all - n)
unfolding show signed_field pick
signed_minus w first all n h = rw (le-ltb n first h) refl

division_cost : (w : Form) (n : ℕ) → EitherKind n → length (show w (column_field division n)) ≤ 5
unfolding column_field
division_cost w n (inl h) = rw (signed_plus w 32768 65536 n (omega arith)) (track_cost n (omega arith))
division_cost w n (inr h) = rw (signed_minus w 32768 65536 n (omega arith)) (omega (arith, frames_cost (65536 - n) (omega arith)))

column_cost_lem : (w : Form) (c : Column) (n : ℕ) → InColumn c n → length (show w (column_field c n)) ≤ column_cost c
unfolding InColumn show column_field column_cost pick
column_cost_lem w (range lo hi) n h = decimal_mono n hi h.1
column_cost_lem w key b (inl h) = rw (signed_plus w 8 256 b h) (omega (arith, key_cost b (omega arith)))
column_cost_lem w key b (inr h) = rw (signed_minus w 8 256 b (omega arith)) (omega (arith, key_cost (256 - b) (omega arith)))
column_cost_lem w mode m h = mode_cost w m
column_cost_lem w free_type t h = byte_cost t (omega arith)
column_cost_lem w division n h = division_cost w n (division_kinds n h)

data_text : (d : List ℕ) → Bytes d → length (further as_text (data_fields d)) ≤ 5 * length d
unfolding further data_fields show gap
data_text [] h = omega arith
data_text (b ∷ d) h = let q = data_text d h.1 in simp length-append (omega (arith, byte_cost b (omega (arith, h.0))))

data_sheet : (d : List ℕ) → Bytes d → length (further as_sheet (data_fields d)) ≤ 4 * length d
unfolding further data_fields show gap
data_sheet [] h = omega arith
data_sheet (b ∷ d) h = let q = data_sheet d h.1 in simp length-append (omega (arith, byte_cost b (omega (arith, h.0))))

tail_cost_lem : (w : Form) (t : Tail) (d : List ℕ) → InTail t d → length (further w (tail_fields t d)) ≤ tail_cost w t (length d)
unfolding InTail further tail_fields tail_cost show gap gap_cost
tail_cost_lem w none d h = omega arith
tail_cost_lem w one_text d h = simp length-append (omega (arith, quote_length w d, gap_cost_lem w))
tail_cost_lem as_text sized d h = simp length-append (omega (arith, decimal_length (length d), data_text d h))
tail_cost_lem as_sheet sized d h = simp length-append (omega (arith, decimal_length (length d), data_sheet d h))

one_cost : (w : Form) (f : Field) (fs : List Field) (a b : ℕ) → length (show w f) ≤ a → length (further w fs) ≤ b → length (further w (f ∷ fs)) ≤ gap_cost w + a + b
unfolding further
one_cost w f fs a b h k = simp length-append (omega (arith, gap_cost_lem w))

columns_cost_lem : (w : Form) (cs : List Column) (t : Tail) (ns d : List ℕ) → InColumns cs ns → InTail t d
    → length (further w (fields_of cs t ns d)) ≤ columns_cost w cs + tail_cost w t (length d)
unfolding InColumns fields_of columns_cost
columns_cost_lem w [] t [] d h g = let q = tail_cost_lem w t d g in omega arith
columns_cost_lem w [] t (n ∷ ns) d h g = absurd h
columns_cost_lem w (c ∷ cs) t [] d h g = absurd h
columns_cost_lem w (c ∷ cs) t (n ∷ ns) d h g =
    let q = columns_cost_lem w cs t ns d h.1 g in
    omega (arith, one_cost w (column_field c n) (fields_of cs t ns d) (column_cost c) (columns_cost w cs + tail_cost w t (length d)) (column_cost_lem w c n h.0) q)

-- ---- a record, with its LF

unfoldable pub cost : Form → RecordName → ℕ → ℕ
cost w n k = 16 + 2 * gap_cost w + length (spelled n) + columns_cost w (shape n).columns + tail_cost w (shape n).tail k

pub record_cost : (w : Form) (r : Record) → r.track ≤ 65535 → InColumns (shape r.name).columns r.values.columns → InTail (shape r.name).tail r.values.body
    → length (record_line w r) + 1 ≤ cost w r.name (length r.values.body)
unfolding record_line line_of show further cost
record_cost w r h cs t =
    let q = columns_cost_lem w (shape r.name).columns (shape r.name).tail r.values.columns r.values.body cs t in
    simp length-append (omega (arith, track_cost r.track h, decimal_length r.time, gap_cost_lem w))
