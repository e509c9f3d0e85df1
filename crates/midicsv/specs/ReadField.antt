-- The fields of a line as they are read. 22: "a field of none of the three shapes". Each reader takes its part off the bytes before it
-- and answers what is left.
use Rattle.std.specs.Prelude.{ℕ, zero, suc, ◌+◌, ◌-◌, ◌*◌, Bool, ◌&&◌, ◌||◌, List, [], ◌∷◌, length, leb, eqb}
use Rattle.event.specs.Choice.{pick}
use Rattle.event.specs.Outcome.{Outcome, ok, refused, and_then, check}
use Rattle.midicsv.specs.Field.{Field, num, minus, name, quoted}

-- ---- bytes

-- "Spaces and tabs"
unfoldable pub is_blank : ℕ → Bool
is_blank c = eqb c 32 || eqb c 9

-- "digits": 0 to 9
unfoldable pub is_digit : ℕ → Bool
is_digit c = leb 48 c && leb c 57

-- "ASCII letters and underscores"
unfoldable pub is_letter : ℕ → Bool
is_letter c = (leb 65 c && leb c 90) || ((leb 97 c && leb c 122) || eqb c 95)

-- "Spaces and tabs round a field are dropped": those in front
unfoldable pub skip : List ℕ → List ℕ
skip [] = []
skip (c ∷ l) = pick (is_blank c) (skip l) (c ∷ l)

-- the text with c in front, where there is one
unfoldable pub push : ℕ → Outcome (List ℕ) → Outcome (List ℕ)
push c (ok d r) = ok (c ∷ d) r
push c (refused n p) = refused n p

-- ---- numbers: "1 to 10 digits, size at most 4,294,967,295"

-- at most k more digits, after those that gave acc; a digit beyond them is none of a number's
unfoldable pub read_digits : ℕ → ℕ → List ℕ → Outcome ℕ
read_digits k acc [] = ok acc []
read_digits zero acc (c ∷ l) = pick (is_digit c) (refused 22 0) (ok acc (c ∷ l))
read_digits (suc k) acc (c ∷ l) = pick (is_digit c) (read_digits k (acc * 10 + (c - 48)) l) (ok acc (c ∷ l))

-- a digit, and then more of them
unfoldable pub read_number : List ℕ → Outcome ℕ
read_number [] = refused 22 0
read_number (c ∷ l) =
    check (is_digit c) 22 0
    (and_then (read_digits 10 0 (c ∷ l)) (λ n r. check (leb n 4294967295) 22 0 (ok n r)))

-- "optional minus": −0 is the number 0
unfoldable pub negative : ℕ → Field
negative zero = num 0
negative (suc n) = minus (suc n)

-- ---- quoted texts

-- what has just been passed: nothing special, a quote, a backslash, or one or two octal digits that make n
pub data Seen : Type 0 where
  plain a_quote a_slash : Seen
  octal1 octal2 : ℕ → Seen

-- "octal digits": 0 to 7
unfoldable pub is_octal : ℕ → Bool
is_octal c = leb 48 c && leb c 55

-- "a quote is doubled, a backslash takes a backslash or three octal digits up to 377, and CR is not allowed"; after the opening quote,
-- the text up to a quote that is not doubled
unfoldable pub read_quoted : List ℕ → Seen → Outcome (List ℕ)
read_quoted [] plain = refused 22 0
read_quoted [] a_quote = ok [] []
read_quoted [] a_slash = refused 22 0
read_quoted [] (octal1 n) = refused 22 0
read_quoted [] (octal2 n) = refused 22 0
read_quoted (c ∷ l) plain =
    pick (eqb c 34) (read_quoted l a_quote)
    (pick (eqb c 92) (read_quoted l a_slash)
    (pick (eqb c 13) (refused 22 0) (push c (read_quoted l plain))))
read_quoted (c ∷ l) a_quote = pick (eqb c 34) (push 34 (read_quoted l plain)) (ok [] (c ∷ l))
read_quoted (c ∷ l) a_slash =
    pick (eqb c 92) (push 92 (read_quoted l plain))
    (check (is_octal c && leb c 51) 22 0 (read_quoted l (octal1 (c - 48))))
read_quoted (c ∷ l) (octal1 n) = check (is_octal c) 22 0 (read_quoted l (octal2 (n * 8 + (c - 48))))
read_quoted (c ∷ l) (octal2 n) = check (is_octal c) 22 0 (push (n * 8 + (c - 48)) (read_quoted l plain))

-- ---- names: "one or more ASCII letters and underscores"; the letters in front, of which there may be none here

-- the letters and underscores in front, and what follows them
unfoldable pub read_name : List ℕ → Outcome (List ℕ)
read_name [] = ok [] []
read_name (c ∷ l) = pick (is_letter c) (push c (read_name l)) (ok [] (c ∷ l))

-- ---- fields

-- after a field stands the end of the line or a comma
unfoldable pub at_comma : Field → List ℕ → Outcome Field
at_comma f [] = ok f []
at_comma f (c ∷ l) = check (eqb c 44) 22 0 (ok f (c ∷ l))

-- "Spaces and tabs round a field are dropped": those after it
unfoldable pub finish : Field → List ℕ → Outcome Field
finish f r = at_comma f (skip r)

-- "A field is a number (optional minus, ..), a name .. or a quoted text", as its first byte tells
unfoldable pub field_of : List ℕ → Outcome Field
field_of [] = refused 22 0
field_of (c ∷ l) =
    pick (eqb c 34) (and_then (read_quoted l plain) (λ d r. finish (quoted d) r))
    (pick (eqb c 45) (and_then (read_number l) (λ n r. finish (negative n) r))
    (pick (is_digit c) (and_then (read_number (c ∷ l)) (λ n r. finish (num n) r))
    (pick (is_letter c) (and_then (read_name (c ∷ l)) (λ s r. finish (name s) r)) (refused 22 0))))

-- a field, with the blanks in front of it
unfoldable pub read_field : List ℕ → Outcome Field
read_field l = field_of (skip l)

-- the field f; nothing after it, or a comma and what k reads after that
unfoldable pub onward : Field → List ℕ → (List ℕ → Outcome (List Field)) → Outcome (List Field)
onward f [] k = ok (f ∷ []) []
onward f (c ∷ l) k = and_then (k l) (λ fs q. ok (f ∷ fs) q)

-- at most n fields (it never shows: fields_step)
unfoldable pub read_fields : ℕ → List ℕ → Outcome (List Field)
read_fields zero l = refused 22 0
read_fields (suc n) l = and_then (read_field l) (λ f r. onward f r (read_fields n))

-- all fields of a line: every field but the last takes a byte and a comma, so one more than the bytes is enough
unfoldable pub all_fields : List ℕ → Outcome (List Field)
all_fields l = read_fields (suc (length l)) l
