-- The line of a record goes through the table unharmed: the line that is put back is read as the same record.
use mathlib.Core.Path.{◌≡◌, refl, sym, ap, ap₂, ◌∙◌}
use Prim.Native.Nat.{ℕ, suc, ◌+◌, ◌≤◌}
use mathlib.Core.Bool.{Bool, true, false, false≢true, ◌&&◌}
use mathlib.Core.List.{List, [], ◌∷◌, append-nil}
use native.Mathlib.Omega.{arith}
use lib.ListN.{length, get_or}
use borrow.Author.Tests.{eqb-true}
use Rattle.event.specs.Outcome.{Outcome, ok, refused}
use Rattle.event.proofs.ChoiceLaws.{pick_false}
use Rattle.midicsv.specs.Field.{Field, num, minus, name, quoted}
use Rattle.midicsv.specs.Table.{RecordName, header, start_track, end_of_file, event, note_off_name, note_on_name, poly_aftertouch_name, control_change_name, program_change_name, channel_aftertouch_name, pitch_bend_name, system_exclusive_name, system_exclusive_packet_name, sequence_number_name, words, channel_prefix_name, midi_port_name, end_track_name, set_tempo_name, smpte_offset_name, time_signature_name, key_signature_name, sequencer_specific_name, unknown_meta_name, Column, range, key, mode, free_type, division, Tail, none, one_text, sized, event_shape, shape}
use Rattle.midicsv.specs.Record.{Record, Values}
use Rattle.midicsv.specs.Result.{Result, good}
use Rattle.midicsv.specs.ReadField.{read_field, all_fields}
use Rattle.midicsv.specs.Names.{name_from}
use Rattle.midicsv.specs.ReadRecord.{size_of, counted, read_signed, read_column, read_bytes, read_text, read_tail, read_columns, record_of, of_fields, read_line}
use Rattle.midicsv.proofs.ResultLaws.{not_good, next_good, test_good}
use Rattle.midicsv.proofs.RowAcceptedLaws.{counted_good}
use Rattle.sheet_table.specs.Cut.{has, cut}
use Rattle.sheet_table.specs.Table.{is_empty, all_empty, drop_empty, plain_cells, fields_to, nowhere, after, text_from, text_of_name, name_in, text_at, row_fields, row_line, cells_line}
use Rattle.sheet_table.proofs.BareFieldLaws.{NoReturn}
use Rattle.sheet_table.proofs.FieldCellLaws.{is_text_lem, Bare}
use Rattle.sheet_table.proofs.RowKeptLaws.{HoldAll, fields_row, ReadAll, joined_read, to_bare, plain_reads, quote_reads, AllPlain, plains_read, drop_none}

-- ---- three sorts of records: of numbers, with a text, with a key and a mode

-- columns of numbers, and a tail that is no Text
unfoldable number_columns : List Column → Tail → Bool
number_columns [] none = true
number_columns [] one_text = false
number_columns [] sized = true
number_columns (range lo hi ∷ cs) t = number_columns cs t
number_columns (key ∷ cs) t = number_columns cs t
number_columns (mode ∷ cs) t = false
number_columns (free_type ∷ cs) t = number_columns cs t
number_columns (division ∷ cs) t = number_columns cs t

data Sort (n : RecordName) : Type 0 where
  numeric : number_columns (shape n).columns (shape n).tail ≡ true → Sort n
  textual : (shape n).columns ≡ [] → (shape n).tail ≡ one_text → Sort n
  keyed : (shape n).columns ≡ key ∷ mode ∷ [] → (shape n).tail ≡ none → Sort n

sort : (n : RecordName) → Sort n
unfolding shape event_shape number_columns
sort header = numeric refl
sort start_track = numeric refl
sort end_of_file = numeric refl
sort (event note_off_name) = numeric refl
sort (event note_on_name) = numeric refl
sort (event poly_aftertouch_name) = numeric refl
sort (event control_change_name) = numeric refl
sort (event program_change_name) = numeric refl
sort (event channel_aftertouch_name) = numeric refl
sort (event pitch_bend_name) = numeric refl
sort (event system_exclusive_name) = numeric refl
sort (event system_exclusive_packet_name) = numeric refl
sort (event sequence_number_name) = numeric refl
sort (event (words t)) = textual refl refl
sort (event channel_prefix_name) = numeric refl
sort (event midi_port_name) = numeric refl
sort (event end_track_name) = numeric refl
sort (event set_tempo_name) = numeric refl
sort (event smpte_offset_name) = numeric refl
sort (event time_signature_name) = numeric refl
sort (event key_signature_name) = keyed refl refl
sort (event sequencer_specific_name) = numeric refl
sort (event unknown_meta_name) = numeric refl

-- ---- which fields of an accepted record are texts

-- what `counted` leaves: the number of fields, or a Length that is a number
unfoldable Fits : ℕ → Tail → List Field → Type 0
Fits k none fs = length fs ≡ k
Fits k one_text fs = length fs ≡ k + 1
Fits k sized fs = is_text_lem (get_or fs k (num 0)) ≡ false

size_plain : (f : Field) (n : ℕ) → size_of f ≡ good n → is_text_lem f ≡ false
unfolding size_of is_text_lem
size_plain (num k) n e = refl
size_plain (minus k) n e = not_good e
size_plain (name s) n e = not_good e
size_plain (quoted d) n e = not_good e

counted_fits : {A : Type 0} (k : ℕ) (t : Tail) (fs : List Field) (m : Result A) (a : A) → counted k t fs m ≡ good a → Fits k t fs
unfolding counted Fits
counted_fits k none fs m a e = eqb-true (length fs) k (test_good _ 24 m a e).0
counted_fits k one_text fs m a e = eqb-true (length fs) (k + 1) (test_good _ 24 m a e).0
counted_fits k sized fs m a e = next_good (size_of (get_or fs k (num 0))) _ a (test_good _ 24 _ a e).1 (λ n q z. size_plain (get_or fs k (num 0)) n q)

fits_less : (k : ℕ) (t : Tail) (f : Field) (fs : List Field) → Fits (suc k) t (f ∷ fs) → Fits k t fs
unfolding Fits
fits_less k none f fs h = omega arith
fits_less k one_text f fs h = omega arith
fits_less k sized f fs h = h

number_plain : (lo hi : ℕ) (f : Field) (n : ℕ) → read_column (range lo hi) f ≡ good n → is_text_lem f ≡ false
unfolding read_column is_text_lem
number_plain lo hi (num k) n e = refl
number_plain lo hi (minus k) n e = not_good e
number_plain lo hi (name s) n e = not_good e
number_plain lo hi (quoted d) n e = not_good e

signed_plain : (most least all : ℕ) (f : Field) (n : ℕ) → read_signed most least all f ≡ good n → is_text_lem f ≡ false
unfolding read_signed is_text_lem
signed_plain most least all (num k) n e = refl
signed_plain most least all (minus k) n e = refl
signed_plain most least all (name s) n e = not_good e
signed_plain most least all (quoted d) n e = not_good e

key_plain : (f : Field) (n : ℕ) → read_column key f ≡ good n → is_text_lem f ≡ false
unfolding read_column
key_plain f n e = signed_plain _ _ _ f n e

division_plain : (f : Field) (n : ℕ) → read_column division f ≡ good n → is_text_lem f ≡ false
unfolding read_column
division_plain f n e = next_good (read_signed 32767 32768 65536 f) _ n e (λ m q z. signed_plain _ _ _ f m q)

free_plain : (f : Field) (n : ℕ) → read_column free_type f ≡ good n → is_text_lem f ≡ false
unfolding read_column is_text_lem
free_plain (num k) n e = refl
free_plain (minus k) n e = not_good e
free_plain (name s) n e = not_good e
free_plain (quoted d) n e = not_good e

mode_text : (f : Field) (n : ℕ) → read_column mode f ≡ good n → is_text_lem f ≡ true
unfolding read_column is_text_lem
mode_text (num k) n e = not_good e
mode_text (minus k) n e = not_good e
mode_text (name s) n e = not_good e
mode_text (quoted d) n e = refl

words_text : (f : Field) (d : List ℕ) → read_text f ≡ good d → is_text_lem f ≡ true
unfolding read_text is_text_lem
words_text (num k) d e = not_good e
words_text (minus k) d e = not_good e
words_text (name s) d e = not_good e
words_text (quoted x) d e = refl

name_plain : (f : Field) (n : RecordName) → name_from f ≡ good n → is_text_lem f ≡ false
unfolding name_from is_text_lem
name_plain (num k) n e = not_good e
name_plain (minus k) n e = not_good e
name_plain (name s) n e = refl
name_plain (quoted d) n e = not_good e

bytes_plain : (fs : List Field) (d : List ℕ) → read_bytes fs ≡ good d → AllPlain fs
unfolding read_bytes
bytes_plain [] d e = tt
bytes_plain (f ∷ fs) d e =
    next_good (read_column (range 0 255) f) _ d e (λ b q e1.
    next_good (read_bytes fs) _ d e1 (λ x y z. (number_plain 0 255 f b q, bytes_plain fs x y)))

none_plain : (fs : List Field) → length fs ≡ 0 → AllPlain fs
none_plain [] h = tt
none_plain (f ∷ fs) h = absurd (omega arith)

tail_plain : (t : Tail) (fs : List Field) (d : List ℕ) → number_columns [] t ≡ true → Fits 0 t fs → read_tail t fs ≡ good d → AllPlain fs
unfolding number_columns Fits read_tail
tail_plain none fs d p h e = none_plain fs h
tail_plain one_text fs d p h e = absurd (false≢true p)
tail_plain sized [] d p h e = not_good e
tail_plain sized (f ∷ fs) d p h e = (h, bytes_plain fs d e)

-- a column of numbers, and those after it
column_plain : (c : Column) (cs : List Column) (t : Tail) (f : Field) (n : ℕ) → number_columns (c ∷ cs) t ≡ true → read_column c f ≡ good n
    → (is_text_lem f ≡ false) × (number_columns cs t ≡ true)
unfolding number_columns
column_plain (range lo hi) cs t f n p e = (number_plain lo hi f n e, p)
column_plain key cs t f n p e = (key_plain f n e, p)
column_plain mode cs t f n p e = absurd (false≢true p)
column_plain free_type cs t f n p e = (free_plain f n e, p)
column_plain division cs t f n p e = (division_plain f n e, p)

columns_plain : (cs : List Column) (t : Tail) (fs : List Field) (v : Values) → number_columns cs t ≡ true → Fits (length cs) t fs → read_columns cs t fs ≡ good v → AllPlain fs
unfolding read_columns
columns_plain [] t fs v p h e = next_good (read_tail t fs) _ v e (λ d q z. tail_plain t fs d p h q)
columns_plain (c ∷ cs) t [] v p h e = not_good e
columns_plain (c ∷ cs) t (f ∷ fs) v p h e =
    next_good (read_column c f) _ v e (λ n q e1.
    next_good (read_columns cs t fs) _ v e1 (λ w y z.
    let (a, b) = column_plain c cs t f n p q in
    (a, columns_plain cs t fs w b (fits_less (length cs) t f fs h) y)))

-- ---- the fields that are put back

-- a row of numbers has no text
no_text_lem : (i : ℕ) (cs : List Column) (t : Tail) → number_columns cs t ≡ true → text_from i cs t ≡ nowhere
unfolding number_columns text_from
no_text_lem i [] none p = refl
no_text_lem i [] one_text p = absurd (false≢true p)
no_text_lem i [] sized p = refl
no_text_lem i (range lo hi ∷ cs) t p = no_text_lem (suc i) cs t p
no_text_lem i (key ∷ cs) t p = no_text_lem (suc i) cs t p
no_text_lem i (mode ∷ cs) t p = absurd (false≢true p)
no_text_lem i (free_type ∷ cs) t p = no_text_lem (suc i) cs t p
no_text_lem i (division ∷ cs) t p = no_text_lem (suc i) cs t p

text_third : (cs : List Column) (t : Tail) → cs ≡ [] → t ≡ one_text → text_from 3 cs t ≡ after 3
unfolding text_from
text_third cs t p q = ap₂ (text_from 3) p q

text_fourth : (cs : List Column) (t : Tail) → cs ≡ key ∷ mode ∷ [] → t ≡ none → text_from 3 cs t ≡ after 4
unfolding text_from
text_fourth cs t p q = ap₂ (text_from 3) p q

all_back : (cs : List (List ℕ)) (fs : List Field) → AllPlain fs → HoldAll cs fs → ReadAll (row_fields nowhere cs) fs
unfolding row_fields
all_back cs fs a h = rw (drop_none cs fs a h) (plains_read cs fs a h)

module _ (x y z : List ℕ) (a b c : Field) (ta : is_text_lem a ≡ false) (tb : is_text_lem b ≡ false) (tc : is_text_lem c ≡ false) where
  -- the text, after Track, Time and name
  text_back : (cs : List (List ℕ)) (fs : List Field) (d : List ℕ) → length fs ≡ 1 → read_tail one_text fs ≡ good d → HoldAll (x ∷ y ∷ z ∷ cs) (a ∷ b ∷ c ∷ fs)
      → ReadAll (row_fields (after 3) (x ∷ y ∷ z ∷ cs)) (a ∷ b ∷ c ∷ fs)
  unfolding row_fields fields_to read_tail drop_empty plain_cells
  text_back cs [] d n e h = absurd (omega arith)
  text_back [] (f ∷ []) d n e h = absurd h.1.1.1
  text_back (w ∷ cs) (f ∷ g ∷ fs) d n e h = absurd (omega arith)
  text_back [] (f ∷ g ∷ fs) d n e h = absurd (omega arith)
  text_back (w ∷ v ∷ cs) (f ∷ []) d n e h = absurd h.1.1.1.1
  text_back (w ∷ []) (f ∷ []) d n e h =
      (plain_reads x a ta h.0, (plain_reads y b tb h.1.0, (plain_reads z c tc h.1.1.0, (quote_reads w f (words_text f d e) h.1.1.1.0, tt))))

  -- the key and the mode
  key_back : (cs : List (List ℕ)) (fs : List Field) (v : Values) → length fs ≡ 2 → read_columns (key ∷ mode ∷ []) none fs ≡ good v → HoldAll (x ∷ y ∷ z ∷ cs) (a ∷ b ∷ c ∷ fs)
      → ReadAll (row_fields (after 4) (x ∷ y ∷ z ∷ cs)) (a ∷ b ∷ c ∷ fs)
  unfolding row_fields fields_to read_columns drop_empty plain_cells
  key_back cs [] v n e h = absurd (omega arith)
  key_back cs (f ∷ []) v n e h = absurd (omega arith)
  key_back cs (f ∷ g ∷ k ∷ fs) v n e h = absurd (omega arith)
  key_back [] (f ∷ g ∷ []) v n e h = absurd h.1.1.1
  key_back (w ∷ []) (f ∷ g ∷ []) v n e h = absurd h.1.1.1.1
  key_back (w ∷ u ∷ t ∷ cs) (f ∷ g ∷ []) v n e h = absurd h.1.1.1.1.1
  key_back (w ∷ u ∷ []) (f ∷ g ∷ []) v n e h =
      next_good (read_column key f) _ v e (λ i qi e1.
      next_good (read_columns (mode ∷ []) none (g ∷ [])) _ v e1 (λ m qm e2.
      next_good (read_column mode g) _ m qm (λ j qj e3. (
        plain_reads x a ta h.0,
        (
          plain_reads y b tb h.1.0,
          (
            plain_reads z c tc h.1.1.0,
            (plain_reads w f (key_plain f i qi) h.1.1.1.0, (quote_reads u g (mode_text g j qj) h.1.1.1.1.0, tt)),
          ),
        ),
      ))))

  -- the row of the name n
  sort_back : (n : RecordName) (cs : List (List ℕ)) (fs : List Field) (v : Values) → Sort n → Fits (length (shape n).columns) (shape n).tail fs
      → read_columns (shape n).columns (shape n).tail fs ≡ good v → HoldAll (x ∷ y ∷ z ∷ cs) (a ∷ b ∷ c ∷ fs)
      → ReadAll (row_fields (text_from 3 (shape n).columns (shape n).tail) (x ∷ y ∷ z ∷ cs)) (a ∷ b ∷ c ∷ fs)
  unfolding Fits read_columns
  sort_back n cs fs v (numeric p) k e h =
      rw (no_text_lem 3 (shape n).columns (shape n).tail p)
      (all_back (x ∷ y ∷ z ∷ cs) (a ∷ b ∷ c ∷ fs) (ta, (tb, (tc, columns_plain (shape n).columns (shape n).tail fs v p k e))) h)
  sort_back n cs fs v (textual p q) k e h =
      let k2 : Fits 0 one_text fs = rw (p, q) at k in
      let e2 : read_columns [] one_text fs ≡ good v = rw (p, q) at e in
      rw (text_third (shape n).columns (shape n).tail p q) (next_good (read_tail one_text fs) _ v e2 (λ d u w. text_back cs fs d k2 u h))
  sort_back n cs fs v (keyed p q) k e h =
      let k2 : Fits 2 none fs = rw (p, q) at k in
      let e2 : read_columns (key ∷ mode ∷ []) none fs ≡ good v = rw (p, q) at e in
      rw (text_fourth (shape n).columns (shape n).tail p q) (key_back cs fs v k2 e2 h)

-- ---- the name is found again, and the row is no single cell

pub name_again : (z : List ℕ) (c : Field) (n : RecordName) → name_from c ≡ good n → Bare z c → name_in (read_field z) ≡ good n
unfolding name_in
name_again z c n e b = ap (λ w. name_in (read_field w)) (sym (append-nil z)) ∙ ap name_in (b.reads [] tt) ∙ e

pub text_place_lem : (x y z : List ℕ) (cs : List (List ℕ)) (n : RecordName) → name_in (read_field z) ≡ good n → text_at (x ∷ y ∷ z ∷ cs) ≡ text_from 3 (shape n).columns (shape n).tail
unfolding text_at text_of_name
text_place_lem x y z cs n e = ap text_of_name e

-- what the cells of a record's line are
pub record Back (cs : List (List ℕ)) (fs : List Field) : Type 0 where
  read : ReadAll (row_fields (text_at cs) cs) fs
  alone : cells_line cs ≡ row_line cs

pub not_alone : (x y : List ℕ) (cs : List (List ℕ)) → is_empty y ≡ false → cells_line (x ∷ y ∷ cs) ≡ row_line (x ∷ y ∷ cs)
unfolding cells_line all_empty
not_alone x y cs e = pick_false _ _ (ap (λ z. z && all_empty cs) e)

named_back : (x y z : List ℕ) (cs : List (List ℕ)) (a b c : Field) (fs : List Field) (n : RecordName) (v : Values) → is_text_lem a ≡ false → is_text_lem b ≡ false
    → name_from c ≡ good n → Fits (length (shape n).columns) (shape n).tail fs → read_columns (shape n).columns (shape n).tail fs ≡ good v
    → HoldAll (x ∷ y ∷ z ∷ cs) (a ∷ b ∷ c ∷ fs) → Back (x ∷ y ∷ z ∷ cs) (a ∷ b ∷ c ∷ fs)
named_back x y z cs a b c fs n v ta tb q k e h =
    let tc = name_plain c n q in
    let place = text_place_lem x y z cs n (name_again z c n q (to_bare z c tc h.1.1.0)) in
    record { read = rw place (sort_back x y z a b c ta tb tc n cs fs v (sort n) k e h); alone = not_alone x y (z ∷ cs) (to_bare y b tb h.1.0).some }

pub record_back : (cs : List (List ℕ)) (fs : List Field) (r : Record) → record_of fs ≡ good r → HoldAll cs fs → Back cs fs
unfolding record_of
record_back cs [] r e h = not_good e
record_back cs (a ∷ []) r e h = not_good e
record_back cs (a ∷ b ∷ []) r e h = not_good e
record_back [] (a ∷ b ∷ c ∷ fs) r e h = absurd h
record_back (x ∷ []) (a ∷ b ∷ c ∷ fs) r e h = absurd h.1
record_back (x ∷ y ∷ []) (a ∷ b ∷ c ∷ fs) r e h = absurd h.1.1
record_back (x ∷ y ∷ z ∷ cs) (a ∷ b ∷ c ∷ fs) r e h =
    next_good (name_from c) _ r e (λ n q e1.
    let k = counted_fits (length (shape n).columns) (shape n).tail fs _ r e1 in
    next_good (read_column (range 0 65535) a) _ r (counted_good _ _ fs _ r e1) (λ i qa e2.
    next_good (read_column (range 0 4294967295) b) _ r e2 (λ j qb e3.
    next_good (read_columns (shape n).columns (shape n).tail fs) _ r e3 (λ v qv e4.
    named_back x y z cs a b c fs n v (number_plain 0 65535 a i qa) (number_plain 0 4294967295 b j qb) q k qv h))))

-- ---- the line

-- the line of cells that were cut is read as the record
pub fields_back : (cs : List (List ℕ)) (fs : List Field) (r : Record) → record_of fs ≡ good r → Back cs fs → read_line (row_line cs) ≡ good r
unfolding read_line of_fields row_line record_of
fields_back cs [] r e w = not_good e
fields_back cs (f ∷ fs) r e w = ap of_fields (joined_read (row_fields (text_at cs) cs) f fs w.read) ∙ e

two_fields : (fs : List Field) (r : Record) → record_of fs ≡ good r → 2 ≤ length fs
unfolding record_of
two_fields [] r e = not_good e
two_fields (a ∷ []) r e = not_good e
two_fields (a ∷ b ∷ fs) r e = omega arith

-- a line that is read as r: its cells are put back so that they are read as r; it has a comma, and no CR
pub record Kept (l : List ℕ) (r : Record) : Type 0 where
  pub cells : List (List ℕ)
  pub cuts : cut 44 l ≡ good cells
  pub alone : cells_line cells ≡ row_line cells
  pub back : read_line (row_line cells) ≡ good r
  pub no_return : NoReturn l
  pub comma : has 44 l ≡ true

of_kept : (l : List ℕ) (m : Outcome (List Field)) (r : Record) → all_fields l ≡ m → of_fields m ≡ good r → Kept l r
unfolding of_fields
of_kept l (ok fs q) r e z =
    let w = fields_row l fs q e in
    let b = record_back w.cells fs r z w.holds in
    record {
      cells = w.cells;
      cuts = w.cuts;
      alone = b.alone;
      back = fields_back w.cells fs r z b;
      no_return = w.no_return;
      comma = w.comma (two_fields fs r z);
    }
of_kept l (refused n p) r e z = not_good z

pub line_kept : (l : List ℕ) (r : Record) → read_line l ≡ good r → Kept l r
unfolding read_line
line_kept l r e = of_kept l (all_fields l) r refl e
