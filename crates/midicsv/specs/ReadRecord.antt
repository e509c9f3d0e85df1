-- A line as a record, its tests in their order: "22 over all fields, 24 if under three, 23, then 24 (in records with a Length: 24 if it is
-- missing, 25 if it is no non-negative number, 24 if the count differs), 25".
use Rattle.std.specs.Prelude.{ℕ, ◌+◌, ◌-◌, Bool, true, false, ◌&&◌, List, [], ◌∷◌, length, get_or, leb, ltb, eqb}
use Rattle.event.specs.Choice.{pick}
use Rattle.event.specs.Outcome.{Outcome, ok, refused}
use Rattle.event.specs.Meta.{MetaKind, sequence_kind, text_kind, prefix_kind, port_kind, end_kind, tempo_kind, offset_kind, time_kind, key_kind, specific_kind, unknown_kind, kind_of}
use Rattle.smf.specs.Division.{division_ok}
use Rattle.smf.specs.Piece.{tracks_fit}
use Rattle.midicsv.specs.Field.{bytes, Field, num, minus, name, quoted}
use Rattle.midicsv.specs.Table.{RecordName, header, start_track, end_of_file, event, Column, range, key, mode, free_type, division, Tail, none, one_text, sized, shape}
use Rattle.midicsv.specs.Record.{Values, Record}
use Rattle.midicsv.specs.ReadField.{all_fields}
use Rattle.midicsv.specs.Result.{Result, good, bad, next, test}
use Rattle.midicsv.specs.Names.{name_from}

-- ---- 24: "wrong number of fields"

-- a Length: "25 if it is no non-negative number"
unfoldable pub size_of : Field → Result ℕ
size_of (num n) = good n
size_of (minus n) = bad 25
size_of (name s) = bad 25
size_of (quoted d) = bad 25

-- the fields after the name are those of k columns and of the tail; "24 if [the Length] is missing, ..., 24 if the count differs"
unfoldable pub counted : {A : Type 0} → ℕ → Tail → List Field → Result A → Result A
counted k none fs m = test (eqb (length fs) k) 24 m
counted k one_text fs m = test (eqb (length fs) (k + 1)) 24 m
counted k sized fs m =
    test (ltb k (length fs)) 24
    (next (size_of (get_or fs k (num 0))) (λ n. test (eqb (length fs) (k + 1 + n)) 24 m))

-- ---- 25: "field of wrong shape or outside its range"

-- the same bytes, with case
unfoldable pub same_bytes : List ℕ → List ℕ → Bool
same_bytes [] [] = true
same_bytes [] (d ∷ t) = false
same_bytes (c ∷ s) [] = false
same_bytes (c ∷ s) (d ∷ t) = eqb c d && same_bytes s t

-- a type without a name of its own: "25 is also for .. an Unknown_meta_event type .. with its own name"
unfoldable pub is_free : MetaKind → Bool
is_free sequence_kind = false
is_free text_kind = false
is_free prefix_kind = false
is_free port_kind = false
is_free end_kind = false
is_free tempo_kind = false
is_free offset_kind = false
is_free time_kind = false
is_free key_kind = false
is_free specific_kind = false
is_free unknown_kind = true

-- a number from −least to most; one below 0 is kept as all more, as it is in a file's byte (all is 256) or 16 bits (65536)
unfoldable pub read_signed : ℕ → ℕ → ℕ → Field → Result ℕ
read_signed most least all (num n) = test (leb n most) 25 (good n)
read_signed most least all (minus n) = test (leb n least) 25 (good (all - n))
read_signed most least all (name s) = bad 25
read_signed most least all (quoted d) = bad 25

-- a number in its range; "−7..7", kept as its byte in the file; "`major` (0) or `minor` (1)"; a type up to 127 without a name; "the 16 bits
-- read as signed", and "25 for the division field, now only where it is of neither kind"
unfoldable pub read_column : Column → Field → Result ℕ
read_column (range lo hi) (num n) = test (leb lo n && leb n hi) 25 (good n)
read_column (range lo hi) (minus n) = bad 25
read_column (range lo hi) (name s) = bad 25
read_column (range lo hi) (quoted d) = bad 25
read_column key f = read_signed 7 7 256 f
read_column mode (num n) = bad 25
read_column mode (minus n) = bad 25
read_column mode (name s) = bad 25
read_column mode (quoted d) = pick (same_bytes d (bytes "major")) (good 0) (pick (same_bytes d (bytes "minor")) (good 1) (bad 25))
read_column free_type (num n) = test (leb n 127 && is_free (kind_of n)) 25 (good n)
read_column free_type (minus n) = bad 25
read_column free_type (name s) = bad 25
read_column free_type (quoted d) = bad 25
read_column division f = next (read_signed 32767 32768 65536 f) (λ n. test (division_ok n) 25 (good n))

-- Data: "other data 0..255"
unfoldable pub read_bytes : List Field → Result (List ℕ)
read_bytes [] = good []
read_bytes (f ∷ fs) = next (read_column (range 0 255) f) (λ b. next (read_bytes fs) (λ d. good (b ∷ d)))

-- "Text": a quoted text
unfoldable pub read_text : Field → Result (List ℕ)
read_text (num n) = bad 25
read_text (minus n) = bad 25
read_text (name s) = bad 25
read_text (quoted d) = good d

-- the Text, or the Data after a Length; `counted` has left the right number of fields
unfoldable pub read_tail : Tail → List Field → Result (List ℕ)
read_tail none fs = good []
read_tail one_text [] = bad 24
read_tail one_text (f ∷ fs) = read_text f
read_tail sized [] = bad 24
read_tail sized (f ∷ fs) = read_bytes fs

-- the fields after the name, from left to right
unfoldable pub read_columns : List Column → Tail → List Field → Result Values
read_columns [] t fs = next (read_tail t fs) (λ d. good (record { columns = []; body = d }))
read_columns (c ∷ cs) t [] = bad 24
read_columns (c ∷ cs) t (f ∷ fs) =
    next (read_column c f) (λ n. next (read_columns cs t fs) (λ v. good (record { columns = n ∷ v.columns; body = v.body })))

-- 25: "format 0 with a track count other than 1"
unfoldable pub together : RecordName → List ℕ → Bool
together header ns = tracks_fit (get_or ns 0 0) (get_or ns 1 0)
together start_track ns = true
together end_of_file ns = true
together (event g) ns = true

-- the record of these values
unfoldable pub with_values : ℕ → ℕ → RecordName → Values → Result Record
with_values track time n v = test (together n v.columns) 25 (good (record { track = track; time = time; name = n; values = v }))

-- ---- a line: "22 over all fields, 24 if under three, 23, then 24, 25"

-- Track in 0..65535, Time in 0..4,294,967,295
unfoldable pub record_of : List Field → Result Record
record_of [] = bad 24
record_of (a ∷ []) = bad 24
record_of (a ∷ b ∷ []) = bad 24
record_of (a ∷ b ∷ c ∷ fs) =
    next (name_from c) (λ n.
    counted (length (shape n).columns) (shape n).tail fs
    (next (read_column (range 0 65535) a) (λ track.
    next (read_column (range 0 4294967295) b) (λ time.
    next (read_columns (shape n).columns (shape n).tail fs) (with_values track time n)))))

-- 22 comes before all others
unfoldable pub of_fields : Outcome (List Field) → Result Record
of_fields (ok fs r) = record_of fs
of_fields (refused n p) = bad n

-- a line without its end, which is not passed over
unfoldable pub read_line : List ℕ → Result Record
read_line l = of_fields (all_fields l)
