-- What the record of an accepted line is.
use mathlib.Core.Path.{◌≡◌, refl}
use Prim.Native.Nat.{ℕ, ◌+◌, ◌≤◌}
use mathlib.Core.Bool.{true}
use mathlib.Core.List.{List, [], ◌∷◌}
use native.Mathlib.Omega.{arith}
use lib.ListN.{length}
use Rattle.event.specs.Outcome.{Outcome, ok, refused}
use Rattle.event.specs.Bytes.{Bytes}
use Rattle.midicsv.specs.Field.{Field}
use Rattle.midicsv.specs.Table.{spelled, range, shape}
use Rattle.midicsv.specs.Record.{Record}
use Rattle.midicsv.specs.Result.{good}
use Rattle.midicsv.specs.Names.{name_from}
use Rattle.midicsv.specs.ReadField.{all_fields}
use Rattle.midicsv.specs.ReadRecord.{read_column, read_columns, together, with_values, record_of, of_fields, read_line}
use Rattle.midicsv.proofs.ResultLaws.{not_good, good_same, next_good, test_good}
use Rattle.midicsv.proofs.RowLaws.{InColumns, InTail}
use Rattle.midicsv.proofs.FieldsLaws.{AllFine, fields_fine}
use Rattle.midicsv.proofs.RowAcceptedLaws.{number_most, columns_in_lem, counted_good}
use Rattle.midicsv.proofs.KindAcceptedLaws.{name_spelled}

-- of a line of k bytes
pub record Given (k : ℕ) (r : Record) : Type 0 where
  pub time : r.time ≤ 4294967295
  pub spelled : 1 ≤ length (spelled r.name)
  pub columns : InColumns (shape r.name).columns r.values.columns
  pub tail : InTail (shape r.name).tail r.values.body
  pub small : length r.values.body ≤ k
  pub together : together r.name r.values.columns ≡ true

record_given : (k : ℕ) (fs : List Field) (r : Record) → AllFine k fs → length fs ≤ k + 1 → record_of fs ≡ good r → Given k r
unfolding record_of with_values
record_given k [] r g l e = not_good e
record_given k (a ∷ []) r g l e = not_good e
record_given k (a ∷ b ∷ []) r g l e = not_good e
record_given k (a ∷ b ∷ c ∷ fs) r g l e =
    next_good (name_from c) _ r e (λ n qn e1.
    next_good (read_column (range 0 65535) a) _ r (counted_good _ _ fs _ r e1) (λ track qt e2.
    next_good (read_column (range 0 4294967295) b) _ r e2 (λ time qs e3.
    next_good (read_columns (shape n).columns (shape n).tail fs) _ r e3 (λ v qv e4.
    let (x, y, z) = columns_in_lem k (shape n).columns (shape n).tail fs v g.1.1.1 (omega arith) qv in
    let (t, q) = test_good _ 25 _ r e4 in
    rw (← (good_same q))
    (record { time = number_most k 0 4294967295 b time g.1.0 qs; spelled = name_spelled c n qn; columns = x; tail = y; small = z; together = t })))))

of_fields_lem : (k : ℕ) (m : Outcome (List Field)) (r : Record) → ((fs : List Field) (q : List ℕ) → m ≡ ok fs q → AllFine k fs × (length fs ≤ k + 1)) → of_fields m ≡ good r → Given k r
unfolding of_fields
of_fields_lem k (ok fs q) r h e = let w = h fs q refl in record_given k fs r w.0 w.1 e
of_fields_lem k (refused n p) r h e = not_good e

pub line_given : (l : List ℕ) (r : Record) → Bytes l → read_line l ≡ good r → Given (length l) r
unfolding read_line
line_given l r b e = of_fields_lem (length l) (all_fields l) r (λ fs q z. let w = fields_fine l fs q b z in (w.0, omega arith)) e
