-- What the scanner's inner functions say of the parts of a line l, by the readers of document 01's fields.
use Rattle.std.specs.Prelude.{◌≡◌, ℕ, ◌-◌, ◌≤◌, List, ◌∷◌, length, take, drop, Option, Some, None}
use Rattle.event.specs.Outcome.{Outcome, ok, refused, and_then}
use Rattle.midicsv.specs.Field.{Field, num, name, quoted}
use Rattle.midicsv.specs.ReadField.{skip, read_number, negative, Seen, plain, a_quote, a_slash, octal1, octal2, read_quoted, read_name, finish, read_field}
use Rattle.midicsv_scan.specs.Unquoted.{unquoted}
use Rattle.midicsv_scan.specs.declared.Look.{Look}
use Rattle.midicsv_scan.specs.declared.Look.TheVariants.{Plain, Quote, Slash, One, Two}
use Rattle.midicsv_scan.specs.declared.Turn.{Turn}
use Rattle.midicsv_scan.specs.declared.Turn.TheVariants.{On, Ended, Broken}

-- ---- places

-- the places of an answer about the place at
abbrev pub EndWithin : List ℕ → ℕ → Option ℕ → Type 0
EndWithin l at (Some q) = (at ≤ q) × (q ≤ length l)
EndWithin l at None = Unit {0}

-- of a run of digits, or of a number
abbrev pub NumberWithin : List ℕ → ℕ → Option (ℕ × ℕ) → Type 0
NumberWithin l at (Some (value, next)) = (at ≤ next) × (next ≤ length l)
NumberWithin l at None = Unit {0}

-- ---- blanks

-- "Spaces and tabs round a field are dropped": those from at on end at p
pub record Skipped (l : List ℕ) (at p : ℕ) : Type 0 where
  pub low : at ≤ p
  pub high : p ≤ length l
  pub same : skip (drop at l) ≡ drop p l

-- ---- numbers

-- a run of digits, or a number, and what follows it; or 22
unfoldable pub number_as : List ℕ → Option (ℕ × ℕ) → Outcome ℕ
number_as l (Some (value, next)) = ok value (drop next l)
number_as l None = refused 22 0

-- ---- quoted texts

-- where a text ends, without its bytes
unfoldable pub ending : Outcome (List ℕ) → Outcome ℕ
ending (ok d r) = ok 0 r
ending (refused n p) = refused n p

-- the end does not depend on the octal digits' number
unfoldable pub seen_of : Look → Seen
seen_of Plain = plain
seen_of Quote = a_quote
seen_of Slash = a_slash
seen_of One = octal1 0
seen_of Two = octal2 0

-- the end of a text of which c and l are left, after the turn at c
unfoldable pub turn_as : ℕ → List ℕ → Turn → Outcome ℕ
turn_as c l (On to) = ending (read_quoted l (seen_of to))
turn_as c l Ended = ok 0 (c ∷ l)
turn_as c l Broken = refused 22 0

-- r is what the byte c does after look, whatever follows
abbrev pub Turned : Look → ℕ → Turn → Type 0
Turned look c r = (l : List ℕ) → turn_as c l r ≡ ending (read_quoted (c ∷ l) (seen_of look))

-- the text from at on
unfoldable pub text_as : List ℕ → ℕ → Option ℕ → Outcome (List ℕ)
text_as l at (Some q) = ok (unquoted (drop at l) plain) (drop q l)
text_as l at None = refused 22 0

-- ---- names

-- the letters from at on end at p
pub record NameEnds (l : List ℕ) (at p : ℕ) : Type 0 where
  pub low : at ≤ p
  pub high : p ≤ length l
  pub same : read_name (drop at l) ≡ ok (take (p - at) (drop at l)) (drop p l)

-- ---- fields

-- the field f, closed at a place or not at all
unfoldable pub closed_as : Field → List ℕ → Option ℕ → Outcome Field
closed_as f l (Some q) = ok f (drop q l)
closed_as f l None = refused 22 0

-- r is where a field that ends at `at` is closed: "Spaces and tabs round a field are dropped"
abbrev pub Closes : List ℕ → ℕ → Option ℕ → Type 0
Closes l at r = (f : Field) → closed_as f l r ≡ finish f (drop at l)

-- fieldOf's four readers
unfoldable pub quoted_field : List ℕ → Outcome Field
quoted_field l = and_then (read_quoted l plain) (λ d r. finish (quoted d) r)

-- after a minus
unfoldable pub minus_field : List ℕ → Outcome Field
minus_field l = and_then (read_number l) (λ n r. finish (negative n) r)

-- from the first digit on
unfoldable pub number_field : List ℕ → Outcome Field
number_field l = and_then (read_number l) (λ n r. finish (num n) r)

-- from the first letter on
unfoldable pub name_field : List ℕ → Outcome Field
name_field l = and_then (read_name l) (λ s r. finish (name s) r)

-- some field from at on, and where it ends; or 22
unfoldable pub FieldEnds : List ℕ → ℕ → Option ℕ → Type 0
FieldEnds l at (Some q) = (f : Field) × (read_field (drop at l) ≡ ok f (drop q l))
FieldEnds l at None = read_field (drop at l) ≡ refused 22 0
