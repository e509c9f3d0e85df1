-- The line of a record is read back.
use mathlib.Core.Path.{◌≡◌, ap, ◌∙◌}
use Prim.Native.Nat.{◌≤◌}
use mathlib.Core.Bool.{true}
use native.Mathlib.Omega.{arith}
use lib.ListN.{length}
use Rattle.event.specs.Outcome.{ok}
use Rattle.midicsv.specs.Show.{Form, line_of}
use Rattle.midicsv.specs.Table.{shape}
use Rattle.midicsv.specs.Record.{Record, record_fields, record_line}
use Rattle.midicsv.specs.Result.{good}
use Rattle.midicsv.specs.ReadField.{all_fields}
use Rattle.midicsv.specs.ReadRecord.{together, with_values, record_of, of_fields, read_line}
use Rattle.midicsv.proofs.AllLaws.{All, Printable}
use Rattle.midicsv.proofs.ResultLaws.{next_eq, test_eq}
use Rattle.midicsv.proofs.RowLaws.{InColumns, InTail}
use Rattle.midicsv.proofs.FieldReadLaws.{Good, AllGood, line_read, line_printable}
use Rattle.midicsv.proofs.KnownLaws.{Known}
use Rattle.midicsv.proofs.RowReadLaws.{number_in, columns_read, columns_good, counted_right}

-- a record that its line tells
pub record Sound (r : Record) : Type 0 where
  pub track : r.track ≤ 65535
  pub time : r.time ≤ 4294967295
  pub known : Known r.name
  pub columns : InColumns (shape r.name).columns r.values.columns
  pub tail : InTail (shape r.name).tail r.values.body
  pub small : length r.values.body ≤ 4294967295
  pub together : together r.name r.values.columns ≡ true

pub record_read : (r : Record) → Sound r → record_of (record_fields r) ≡ good r
unfolding record_of with_values
record_read r s =
    next_eq _ s.known.2
    ∙ counted_right (shape r.name).columns (shape r.name).tail r.values.columns r.values.body _ s.columns
    ∙ next_eq _ (number_in 0 65535 r.track (omega arith) s.track)
    ∙ next_eq _ (number_in 0 4294967295 r.time (omega arith) s.time)
    ∙ next_eq _ (columns_read (shape r.name).columns (shape r.name).tail r.values.columns r.values.body s.columns s.tail)
    ∙ test_eq 25 _ s.together

pub fields_good : (r : Record) → Sound r → AllGood (record_fields r)
unfolding Good
fields_good r s =
    (omega (arith, s.track), (s.time, ((s.known.0, s.known.1), columns_good (shape r.name).columns (shape r.name).tail r.values.columns r.values.body s.columns s.tail s.small)))

pub line_back : (w : Form) (r : Record) → Sound r → read_line (record_line w r) ≡ good r
unfolding read_line record_line of_fields
line_back w r s =
    let e : all_fields (line_of w (record_fields r)) ≡ ok (record_fields r) _ = line_read w _ _ (fields_good r s) in
    ap of_fields e ∙ record_read r s

pub record_printable : (w : Form) (r : Record) → Sound r → All Printable (record_line w r)
unfolding record_line
record_printable w r s = line_printable w (record_fields r) (fields_good r s)
