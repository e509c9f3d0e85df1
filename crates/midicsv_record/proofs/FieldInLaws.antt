-- The field that the scanner found is the field of the line.
use mathlib.Core.Path.{◌≡◌, refl, ap, ◌∙◌}
use Rattle.std.specs.Prelude.{Option, Some, None, MatchOption}
use Prim.Native.Nat.{ℕ, ◌<◌}
use mathlib.Core.List.{List, []}
use lib.ListN.{length, get_or}
use Rattle.event.specs.Outcome.{ok, value_or}
use Rattle.event.proofs.OutcomeLaws.{not_ok}
use Rattle.midicsv.specs.Field.{Field, num}
use Rattle.midicsv.specs.ReadField.{all_fields}
use Rattle.midicsv_scan.specs.FieldAt.{field_as, FieldIs}
use Rattle.midicsv_record.specs.Column.{field_in, value_as, Reads}
use Rattle.midicsv.specs.ReadRecord.{size_of}
use Rattle.midicsv_scan.specs.declared.FieldAt.{FieldAt}

pub field_in_lem : {fs : List Field} (l : List ℕ) (i : ℕ) (r : FieldAt) → all_fields l ≡ ok fs [] → i < length fs → FieldIs l i (Some r) → field_in l r ≡ get_or fs i (num 0)
unfolding value_or
field_in_lem {fs} l i r e h f = let (q, z) = f.field fs e h in rw z refl

-- one is found where the line has so many
pub field_there : {fs : List Field} {X : Type 0} (l : List ℕ) (i : ℕ) → all_fields l ≡ ok fs [] → i < length fs → FieldIs l i None → X
unfolding field_as
field_there {fs} l i e h f = let (q, z) = f.field fs e h in not_ok z

-- the number of the one that is found
pub number_there : {fs : List Field} (l : List ℕ) (i : ℕ) (m : Option FieldAt) (r : Option ℕ) → all_fields l ≡ ok fs [] → i < length fs → FieldIs l i m
    → MatchOption m (r ≡ None) (λ f. Reads size_of f r) → value_as r ≡ size_of (get_or fs i (num 0))
number_there l i None r e h f k = field_there l i e h f
number_there l i (Some x) r e h f k = k l ∙ ap size_of (field_in_lem l i x e h f)
