-- The record of a line from its parts, read in turn.
use mathlib.Core.Path.{◌≡◌, refl, ap, ◌∙◌}
use Rattle.std.specs.Prelude.{Option, Some}
use Prim.Native.Nat.{ℕ}
use mathlib.Core.Bool.{true, false}
use mathlib.Core.List.{List, []}
use lib.ListN.{drop}
use Rattle.event.specs.Outcome.{ok, refused, and_then}
use Rattle.midicsv.specs.Table.{Column}
use Rattle.midicsv.specs.Result.{test}
use Rattle.midicsv.specs.Names.{name_from}
use Rattle.midicsv.specs.ReadRecord.{read_column, together, with_values}
use Rattle.midicsv_scan.specs.FieldAt.{field_as, next_of}
use Rattle.midicsv_scan.specs.declared.FieldAt.{FieldAt}
use Rattle.midicsv_record.specs.Name.{name_at, name_as}
use Rattle.midicsv_record.specs.declared.Name.{Name}
use Rattle.midicsv_record.specs.Row.{body_in, columns_in, record_in}
use Rattle.midicsv_record.specs.Table.{columns_at, tail_at}
use Rattle.midicsv_record.specs.InTurn.{field_after, fitting, column_after, columns_after, last_after, values_after, named_after, record_after}
use Rattle.midicsv_record.specs.Column.{field_in, value_as}
use Rattle.midicsv_record.specs.declared.Row.{Row}
use Rattle.midicsv_record.proofs.InTurnLaws.{field_fits, column_fits, then_then}
use Rattle.midicsv_record.proofs.LineLaws.{together_cut}

module _ (track time : ℕ) (n : Name) (r : List ℕ) where
  -- a column that does not fit
  pub no_columns : refused 22 0 ≡ columns_after (columns_at n) r → refused 22 0 ≡ named_after track time (name_at n) r
  unfolding named_after values_after and_then
  no_columns e = rw (← e) refl

  -- a tail that does not
  pub no_tail : (ns q : List ℕ) → ok ns q ≡ columns_after (columns_at n) r → refused 22 0 ≡ last_after (tail_at n) q → refused 22 0 ≡ named_after track time (name_at n) r
  unfolding named_after values_after and_then
  no_tail ns q e f = rw (← e, ← f) refl

-- columns and tail that fit, of a row of the line l
module _ (l : List ℕ) (row : Row) (r q : List ℕ) (e : ok (columns_in row) q ≡ columns_after (columns_at row.name) r)
    (f : ok (body_in (tail_at row.name) l row.start row.len) [] ≡ last_after (tail_at row.name) q) where
  pub named_good : true ≡ together (name_at row.name) row.columns
      → ok (record_in l row) [] ≡ named_after row.track row.time (name_at row.name) r
  unfolding named_after values_after and_then fitting with_values test
  named_good t = rw (← e, ← f, together_cut (name_at row.name) row.columns, ← t) refl

  pub named_apart : false ≡ together (name_at row.name) row.columns
      → refused 22 0 ≡ named_after row.track row.time (name_at row.name) r
  unfolding named_after values_after and_then fitting with_values test
  named_apart t = rw (← e, ← f, together_cut (name_at row.name) row.columns, ← t) refl

-- ---- the name

-- the name that the code found in a field
pub name_told : (track time : ℕ) (l r : List ℕ) (f : FieldAt) (m : Option Name) → field_as l (Some f) ≡ field_after r → name_as m ≡ name_from (field_in l f)
    → and_then (fitting (name_as m) (drop (next_of f) l)) (named_after track time) ≡ record_after track time r
unfolding record_after
name_told track time l r f m e z =
    rw z
    (ap (λ x. and_then x (named_after track time)) (field_fits name_from l r f e)
    ∙ then_then (field_after r) (λ x q. fitting (name_from x) q) (named_after track time))

-- ---- Track and Time

-- the number that the code found in a field
pub column_told : (c : Column) (l r : List ℕ) (f : FieldAt) (v : Option ℕ) → field_as l (Some f) ≡ field_after r → value_as v ≡ read_column c (field_in l f)
    → fitting (value_as v) (drop (next_of f) l) ≡ column_after c r
column_told c l r f v e z = rw z (column_fits c l r f e)
