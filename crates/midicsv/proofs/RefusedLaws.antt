-- The refusals of texts: no number is 0, and the place is a line of the text or the one after the last.
use mathlib.Core.Path.{◌≡◌, refl}
use Prim.Native.Nat.{ℕ, zero, suc, ◌+◌, ◌≤◌}
use mathlib.Core.Bool.{Bool, true, false}
use mathlib.Core.List.{List, [], ◌∷◌}
use native.Mathlib.Omega.{arith}
use lib.ListN.{length}
use lib.Dec.{eqb}
use Rattle.event.specs.Choice.{pick}
use Rattle.event.specs.Outcome.{Outcome, ok, refused}
use Rattle.event.proofs.ChoiceLaws.{by_test}
use Rattle.event.proofs.RefusalLaws.{Given, Fair, then_fair, check_fair, pick_fair}
use Rattle.smf.specs.Piece.{Piece}
use Rattle.midicsv.specs.Field.{Field, num, minus, name, quoted}
use Rattle.midicsv.specs.Table.{RecordName, header, start_track, end_of_file, event, Column, range, key, mode, free_type, division, Tail, none, one_text, sized}
use Rattle.midicsv.specs.Record.{Record, Values}
use Rattle.midicsv.specs.Result.{Result, good, bad, next, test}
use Rattle.midicsv.specs.ReadField.{is_digit, is_letter, skip, push, read_digits, read_number, negative, Seen, plain, a_quote, a_slash, octal1, octal2, read_quoted, read_name, at_comma, finish, field_of, read_field, onward, read_fields, all_fields}
use Rattle.midicsv.specs.Names.{find, name_from, all_names}
use Rattle.midicsv.specs.ReadRecord.{size_of, counted, read_signed, read_column, read_bytes, read_text, read_tail, read_columns, with_values, record_of, of_fields, read_line}
use Rattle.midicsv.specs.Lines.{onto, lines_of, trimmed, passed_over}
use Rattle.midicsv.specs.Order.{State, first, between, inside, finished, take_header, take_start, take_end, take_event, step_on, step}
use Rattle.midicsv.specs.PieceOfText.{Told, skipped, told, framed, tell_line, step_told, advance, ended, run_lines, piece_told, piece_of_text}

-- ---- fields

-- "a field of none of the three shapes"
none_fair : Given 22 22 × (0 ≤ 0)
none_fair = (omega arith, omega arith)

push_fair : (c : ℕ) (m : Outcome (List ℕ)) → Fair 22 0 m → Fair 22 0 (push c m)
unfolding push
push_fair c (ok d r) f = tt
push_fair c (refused n p) f = f

digits_fair : (k acc : ℕ) (l : List ℕ) → Fair 22 0 (read_digits k acc l)
unfolding read_digits
digits_fair zero acc [] = tt
digits_fair zero acc (c ∷ l) = pick_fair 22 0 (is_digit c) _ _ none_fair tt
digits_fair (suc k) acc [] = tt
digits_fair (suc k) acc (c ∷ l) = pick_fair 22 0 (is_digit c) _ _ (digits_fair k _ l) tt

number_fair : (l : List ℕ) → Fair 22 0 (read_number l)
unfolding read_number
number_fair [] = none_fair
number_fair (c ∷ l) = check_fair 22 0 _ 22 0 _ none_fair (λ t. then_fair 22 0 _ _ (digits_fair 10 0 (c ∷ l)) (λ n r e. check_fair 22 0 _ 22 0 _ none_fair (λ u. tt)))

quoted_fair : (l : List ℕ) (s : Seen) → Fair 22 0 (read_quoted l s)
unfolding read_quoted
quoted_fair [] plain = none_fair
quoted_fair [] a_quote = tt
quoted_fair [] a_slash = none_fair
quoted_fair [] (octal1 n) = none_fair
quoted_fair [] (octal2 n) = none_fair
quoted_fair (c ∷ l) plain =
    pick_fair 22 0 (eqb c 34) _ _ (quoted_fair l a_quote) (pick_fair 22 0 (eqb c 92) _ _ (quoted_fair l a_slash) (pick_fair 22 0 (eqb c 13) _ _ none_fair (push_fair c _ (quoted_fair l plain))))
quoted_fair (c ∷ l) a_quote = pick_fair 22 0 (eqb c 34) _ _ (push_fair 34 _ (quoted_fair l plain)) tt
quoted_fair (c ∷ l) a_slash =
    pick_fair 22 0 (eqb c 92) _ _ (push_fair 92 _ (quoted_fair l plain)) (check_fair 22 0 _ 22 0 _ none_fair (λ t. quoted_fair l _))
quoted_fair (c ∷ l) (octal1 n) = check_fair 22 0 _ 22 0 _ none_fair (λ t. quoted_fair l _)
quoted_fair (c ∷ l) (octal2 n) = check_fair 22 0 _ 22 0 _ none_fair (λ t. push_fair _ _ (quoted_fair l plain))

name_fair : (l : List ℕ) → Fair 22 0 (read_name l)
unfolding read_name
name_fair [] = tt
name_fair (c ∷ l) = pick_fair 22 0 (is_letter c) _ _ (push_fair c _ (name_fair l)) tt

comma_fair : (f : Field) (l : List ℕ) → Fair 22 0 (at_comma f l)
unfolding at_comma
comma_fair f [] = tt
comma_fair f (c ∷ l) = check_fair 22 0 _ 22 0 _ none_fair (λ t. tt)

finish_fair : (f : Field) (l : List ℕ) → Fair 22 0 (finish f l)
unfolding finish
finish_fair f l = comma_fair f (skip l)

of_fair : (l : List ℕ) → Fair 22 0 (field_of l)
unfolding field_of
of_fair [] = none_fair
of_fair (c ∷ l) =
    pick_fair 22 0 (eqb c 34) _ _ (then_fair 22 0 _ _ (quoted_fair l plain) (λ d r e. finish_fair (quoted d) r))
    (pick_fair 22 0 (eqb c 45) _ _ (then_fair 22 0 _ _ (number_fair l) (λ n r e. finish_fair (negative n) r))
    (pick_fair 22 0 (is_digit c) _ _ (then_fair 22 0 _ _ (number_fair (c ∷ l)) (λ n r e. finish_fair (num n) r))
    (pick_fair 22 0 (is_letter c) _ _ (then_fair 22 0 _ _ (name_fair (c ∷ l)) (λ s r e. finish_fair (name s) r)) none_fair)))

onward_fair : (f : Field) (l : List ℕ) (k : List ℕ → Outcome (List Field)) → ((m : List ℕ) → Fair 22 0 (k m)) → Fair 22 0 (onward f l k)
unfolding onward
onward_fair f [] k h = tt
onward_fair f (c ∷ l) k h = then_fair 22 0 _ _ (h l) (λ fs q e. tt)

fields_fair : (n : ℕ) (l : List ℕ) → Fair 22 0 (read_fields n l)
unfolding read_fields read_field
fields_fair zero l = none_fair
fields_fair (suc n) l = then_fair 22 0 _ _ (of_fair (skip l)) (λ f r e. onward_fair f r (read_fields n) (λ m. fields_fair n m))

-- ---- lines

-- no number is 0
abbrev Named : {A : Type 0} → Result A → Type 0
Named (good a) = Unit {0}
Named (bad n) = 1 ≤ n

next_named : {A B : Type 0} (m : Result A) (f : A → Result B) → Named m → ((a : A) → Named (f a)) → Named (next m f)
unfolding next
next_named (good a) f h k = k a
next_named (bad n) f h k = h

test_named : {A : Type 0} (t : Bool) (n : ℕ) (m : Result A) → 1 ≤ n → Named m → Named (test t n m)
unfolding test
test_named true n m h k = k
test_named false n m h k = h

pick_named : {A : Type 0} (t : Bool) (x y : Result A) → Named x → Named y → Named (pick t x y)
unfolding pick
pick_named true x y f g = f
pick_named false x y f g = g

find_named : (s : List ℕ) (ns : List RecordName) → Named (find s ns)
unfolding find
find_named s [] = omega arith
find_named s (n ∷ ns) = pick_named _ _ _ tt (find_named s ns)

from_named : (f : Field) → Named (name_from f)
unfolding name_from
from_named (num n) = omega arith
from_named (minus n) = omega arith
from_named (name s) = find_named s all_names
from_named (quoted d) = omega arith

size_named : (f : Field) → Named (size_of f)
unfolding size_of
size_named (num n) = tt
size_named (minus n) = omega arith
size_named (name s) = omega arith
size_named (quoted d) = omega arith

counted_named : {A : Type 0} (k : ℕ) (t : Tail) (fs : List Field) (m : Result A) → Named m → Named (counted k t fs m)
unfolding counted
counted_named k none fs m h = test_named _ 24 _ (omega arith) h
counted_named k one_text fs m h = test_named _ 24 _ (omega arith) h
counted_named k sized fs m h = test_named _ 24 _ (omega arith) (next_named _ _ (size_named _) (λ n. test_named _ 24 _ (omega arith) h))

signed_named : (most least all : ℕ) (f : Field) → Named (read_signed most least all f)
unfolding read_signed
signed_named most least all (num n) = test_named _ 25 _ (omega arith) tt
signed_named most least all (minus n) = test_named _ 25 _ (omega arith) tt
signed_named most least all (name s) = omega arith
signed_named most least all (quoted d) = omega arith

column_named : (c : Column) (f : Field) → Named (read_column c f)
unfolding read_column
column_named (range lo hi) (num n) = test_named _ 25 _ (omega arith) tt
column_named (range lo hi) (minus n) = omega arith
column_named (range lo hi) (name s) = omega arith
column_named (range lo hi) (quoted d) = omega arith
column_named key f = signed_named _ _ _ f
column_named mode (num n) = omega arith
column_named mode (minus n) = omega arith
column_named mode (name s) = omega arith
column_named mode (quoted d) = pick_named _ _ _ tt (pick_named _ _ _ tt (omega arith))
column_named free_type (num n) = test_named _ 25 _ (omega arith) tt
column_named free_type (minus n) = omega arith
column_named free_type (name s) = omega arith
column_named free_type (quoted d) = omega arith
column_named division f = next_named _ _ (signed_named _ _ _ f) (λ n. test_named _ 25 _ (omega arith) tt)

bytes_named : (fs : List Field) → Named (read_bytes fs)
unfolding read_bytes
bytes_named [] = tt
bytes_named (f ∷ fs) = next_named _ _ (column_named (range 0 255) f) (λ b. next_named _ _ (bytes_named fs) (λ d. tt))

text_named : (f : Field) → Named (read_text f)
unfolding read_text
text_named (num n) = omega arith
text_named (minus n) = omega arith
text_named (name s) = omega arith
text_named (quoted d) = tt

tail_named : (t : Tail) (fs : List Field) → Named (read_tail t fs)
unfolding read_tail
tail_named none fs = tt
tail_named one_text [] = omega arith
tail_named one_text (f ∷ fs) = text_named f
tail_named sized [] = omega arith
tail_named sized (f ∷ fs) = bytes_named fs

columns_named : (cs : List Column) (t : Tail) (fs : List Field) → Named (read_columns cs t fs)
unfolding read_columns
columns_named [] t fs = next_named _ _ (tail_named t fs) (λ d. tt)
columns_named (c ∷ cs) t [] = omega arith
columns_named (c ∷ cs) t (f ∷ fs) = next_named _ _ (column_named c f) (λ n. next_named _ _ (columns_named cs t fs) (λ v. tt))

record_named : (fs : List Field) → Named (record_of fs)
unfolding record_of with_values
record_named [] = omega arith
record_named (a ∷ []) = omega arith
record_named (a ∷ b ∷ []) = omega arith
record_named (a ∷ b ∷ c ∷ fs) =
    next_named _ _ (from_named c) (λ n.
    counted_named _ _ fs _
    (next_named _ _ (column_named _ a) (λ track.
    next_named _ _ (column_named _ b) (λ time.
    next_named _ _ (columns_named _ _ fs) (λ v. test_named _ 25 _ (omega arith) tt)))))

of_fields_named : (m : Outcome (List Field)) → Fair 22 0 m → Named (of_fields m)
unfolding of_fields
of_fields_named (ok fs r) h = record_named fs
of_fields_named (refused n p) h = h.0.0

line_named : (l : List ℕ) → Named (read_line l)
unfolding read_line all_fields
line_named l = of_fields_named _ (fields_fair (suc (length l)) l)

step_on_named : (s : State) (n : RecordName) (track time : ℕ) (v : Values) → Named (step_on s n track time v)
unfolding step_on take_header take_start take_end take_event
step_on_named first header track time v = test_named _ 26 _ (omega arith) tt
step_on_named first start_track track time v = omega arith
step_on_named first end_of_file track time v = omega arith
step_on_named first (event g) track time v = omega arith
step_on_named (between h ts) header track time v = omega arith
step_on_named (between h ts) start_track track time v = test_named _ 26 _ (omega arith) tt
step_on_named (between h ts) end_of_file track time v = test_named _ 26 _ (omega arith) tt
step_on_named (between h ts) (event g) track time v = omega arith
step_on_named (inside h ts es prev) header track time v = omega arith
step_on_named (inside h ts es prev) start_track track time v = omega arith
step_on_named (inside h ts es prev) end_of_file track time v = omega arith
step_on_named (inside h ts es prev) (event g) track time v = test_named _ 26 _ (omega arith) (test_named _ 27 _ (omega arith) tt)
step_on_named (finished p) header track time v = omega arith
step_on_named (finished p) start_track track time v = omega arith
step_on_named (finished p) end_of_file track time v = omega arith
step_on_named (finished p) (event g) track time v = omega arith

told_named : (s : State) (t : Told) → ((m : Result Record) → t ≡ told m → Named m) → Named (step_told s t)
unfolding step_told step
told_named s skipped h = tt
told_named s (told m) h = next_named m _ (h m refl) (λ r. step_on_named s r.name r.track r.time r.values)

-- ---- texts

-- a refusal has a number, and its line is at most m; a piece is read from the whole text
abbrev pub TextFair : ℕ → Outcome Piece → Type 0
TextFair m (ok p r) = r ≡ []
TextFair m (refused n line) = (1 ≤ n) × (1 ≤ line) × (line ≤ m)

pub fair_more : (m n : ℕ) (x : Outcome Piece) → m ≤ n → TextFair m x → TextFair n x
fair_more m n (ok p r) h f = f
fair_more m n (refused k l) h f = (f.0, f.1, omega (arith, f.2))

framed_named : (b : Bool) (l : List ℕ) (m : Result Record) → pick b skipped (told (read_line l)) ≡ told m → Named m
unfolding pick
framed_named true l m e = let w : ◌≡◌ {A = ℕ} 0 1 = cc in absurd (omega arith)
framed_named false l m e = let q : read_line l ≡ m = cc in rw (← q) (line_named l)

tell_named : (s : State) (l : List ℕ) → Named (step_told s (tell_line l))
unfolding tell_line framed
tell_named s l = told_named s _ (framed_named (passed_over (trimmed l)) (trimmed l))

ended_fair : (s : State) (n : ℕ) → 1 ≤ n → TextFair n (ended s n)
unfolding ended
ended_fair first n h = (omega arith, h, omega arith)
ended_fair (between x ts) n h = (omega arith, h, omega arith)
ended_fair (inside x ts es t) n h = (omega arith, h, omega arith)
ended_fair (finished p) n h = refl

advance_fair : (m : Result State) (n k : ℕ) (f : State → Outcome Piece) → 1 ≤ n → n ≤ k → Named m → ((t : State) → TextFair k (f t)) → TextFair k (advance m n f)
unfolding advance
advance_fair (good t) n k f h l a g = g t
advance_fair (bad j) n k f h l a g = (a, h, l)

run_fair : (ls : List (List ℕ)) (s : State) (n : ℕ) → 1 ≤ n → TextFair (n + length ls) (run_lines tell_line ls s n)
unfolding run_lines
run_fair [] s n h = fair_more n (n + 0) (ended s n) (omega arith) (ended_fair s n h)
run_fair (l ∷ ls) s n h =
    advance_fair (step_told s (tell_line l)) n (n + suc (length ls)) (λ t. run_lines tell_line ls t (suc n)) h (omega arith) (tell_named s l) (λ t.
    fair_more (suc n + length ls) (n + suc (length ls)) (run_lines tell_line ls t (suc n)) (omega arith) (run_fair ls t (suc n) (omega arith)))

onto_count : (c : ℕ) (ls : List (List ℕ)) → length (onto c ls) ≤ suc (length ls)
unfolding onto
onto_count c [] = omega arith
onto_count c (l ∷ ls) = omega arith

lines_count : (s : List ℕ) → length (lines_of s) ≤ length s
unfolding lines_of pick
lines_count [] = omega arith
lines_count (c ∷ s) = let h = lines_count s in by_test (eqb c 10) (λ t. rw t (omega arith)) (λ t. rw t (omega (arith, onto_count c (lines_of s))))

pub text_fair : (s : List ℕ) → TextFair (length s + 1) (piece_of_text s)
unfolding piece_of_text piece_told
text_fair s = fair_more (1 + length (lines_of s)) (length s + 1) (run_lines tell_line (lines_of s) first 1) (omega (arith, lines_count s)) (run_fair (lines_of s) first 1 (omega arith))
