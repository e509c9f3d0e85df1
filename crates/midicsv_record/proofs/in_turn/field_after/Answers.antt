use Prim.Native.Nat.{◌+◌}
use mathlib.Core.Path.{refl}
use native.Mathlib.Omega.{arith}
use native.Mathlib.Numerals.{add-one}
use lib.ListN.{drop_of_length-le}
use lib.Seq.{drop-cons}
use Rattle.midicsv_scan.specs.FieldAt.{field_as, Within}
use Rattle.midicsv_record.specs.InTurn.{field_after}
use Rattle.midicsv_scan.proofs.FieldLaws.{within_from}
use Rattle.midicsv_record.proofs.in_turn.field_after.Goals as goal

pub returns-then-line-comma : goal.returns-then-line-comma
unfolding field_as field_after Within
returns-then-line-comma c = record { fact_1 = rw (drop_of_length-le c.args.line.now c.if-line-comma.true) refl; fact_2 = tt }

pub returns : goal.returns
unfolding field_after
returns c =
    let a = c.args in
    record { fact_1 = rw (drop-cons a.line.now a.comma 0 c.if-line-comma.false, ← (add-one a.comma)) c.field_at.ensures.fact_1; fact_2 = within_from _ a.comma (a.comma + 1) _ (omega arith) c.field_at.ensures.fact_2 }
