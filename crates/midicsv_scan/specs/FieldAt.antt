-- What the scanner's answers say of a line l, by document 01's fields.
use Rattle.std.specs.Prelude.{◌≡◌, ℕ, ◌-◌, ◌<◌, ◌≤◌, List, [], length, get_or, take, drop, Option, Some, None}
use Rattle.event.specs.Outcome.{Outcome, ok, refused}
use Rattle.midicsv.specs.Field.{Field, num, minus, name, quoted}
use Rattle.midicsv.specs.ReadField.{plain, all_fields}
use Rattle.midicsv_scan.specs.Unquoted.{unquoted}
use Rattle.midicsv_scan.specs.declared.FieldAt.{FieldAt}
use Rattle.midicsv_scan.specs.declared.FieldAt.TheVariants.{Number, Minus, Name, Quoted}

-- the place after a field
abbrev pub next_of : FieldAt → ℕ
next_of (Number value next) = next
next_of (Minus value next) = next
next_of (Name start end next) = next
next_of (Quoted start next) = next

-- a field and what follows it, from its comma or the line's end on; a name by its place, a text by the place after its opening quote
unfoldable pub field_as : List ℕ → Option FieldAt → Outcome Field
field_as l (Some (Number value next)) = ok (num value) (drop next l)
field_as l (Some (Minus value next)) = ok (minus value) (drop next l)
field_as l (Some (Name start end next)) = ok (name (take (end - start) (drop start l))) (drop next l)
field_as l (Some (Quoted start next)) = ok (quoted (unquoted (drop start l) plain)) (drop next l)
field_as l None = refused 22 0

-- the places of an answer about the place at
unfoldable pub Within : List ℕ → ℕ → Option FieldAt → Type 0
Within l at (Some (Number value next)) = (at ≤ next) × (next ≤ length l)
Within l at (Some (Minus value next)) = (at ≤ next) × (next ≤ length l)
Within l at (Some (Name start end next)) = (start ≤ end) × (end ≤ length l) × (at ≤ next) × (next ≤ length l)
Within l at (Some (Quoted start next)) = (start ≤ length l) × (at ≤ next) × (next ≤ length l)
Within l at None = Unit {0}

-- all fields of the line, counted; or 22
unfoldable pub Counted : List ℕ → Option ℕ → Type 0
Counted l (Some n) = (fs : List Field) × (all_fields l ≡ ok fs []) × (length fs ≡ n)
Counted l None = all_fields l ≡ refused 22 0

-- p is where the field numbered i from 0 begins, in a line whose fields are all good
pub record Begins (l : List ℕ) (i p : ℕ) : Type 0 where
  pub inside : p ≤ length l
  pub rest : (fs : List Field) → all_fields l ≡ ok fs [] → i < length fs → all_fields (drop p l) ≡ ok (drop i fs) []

-- r is the field numbered i from 0, in a line whose fields are all good
pub record FieldIs (l : List ℕ) (i : ℕ) (r : Option FieldAt) : Type 0 where
  pub within : Within l 0 r
  pub field : (fs : List Field) → all_fields l ≡ ok fs [] → i < length fs → (q : List ℕ) × (field_as l r ≡ ok (get_or fs i (num 0)) q)
