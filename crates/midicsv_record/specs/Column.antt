-- What the answers about a field say.
use Rattle.std.specs.Prelude.{◌≡◌, ℕ, List, [], drop, Option, Some, None}
use Rattle.event.specs.Outcome.{value_or}
use Rattle.midicsv.specs.Field.{Field, name}
use Rattle.midicsv.specs.ReadField.{all_fields}
use Rattle.midicsv.specs.Result.{Result, good, bad}
use Rattle.midicsv_scan.specs.FieldAt.{field_as}
use Rattle.midicsv_scan.specs.declared.FieldAt.{FieldAt}

-- the field so found
abbrev pub field_in : List ℕ → FieldAt → Field
field_in l f = value_or (name []) (field_as l (Some f))

-- the number of a column, or 25: "field of wrong shape or outside its range"
unfoldable pub value_as : Option ℕ → Result ℕ
value_as (Some v) = good v
value_as None = bad 25

-- r is what g reads of the field f, in whatever line it stands
abbrev pub Reads : (Field → Result ℕ) → FieldAt → Option ℕ → Type 0
Reads g f r = (l : List ℕ) → value_as r ≡ g (field_in l f)

-- the fields of a line whose fields are all good
abbrev pub fields_in : List ℕ → List Field
fields_in l = value_or [] (all_fields l)

-- and those after Track, Time and the name
abbrev pub later_in : List ℕ → List Field
later_in l = drop 3 (fields_in l)
