use Rattle.event.proofs.BytesLaws.{bytes_of}
use Rattle.midicsv_record.specs.Row.{line_as, Placed}
use Rattle.midicsv_record.specs.InTurn.{Agrees, row_as, RowInside}
use Rattle.midicsv_record.proofs.AgreeLaws.{row_agrees}
use native.Mathlib.Omega.{arith}
use mathlib.Core.Path.{sym, subst}
use Rattle.midicsv_record.proofs.line.read_line.Goals as goal

pub refusal_of-requires : goal.refusal_of-requires
unfolding Agrees row_as
refusal_of-requires c =
    let l = c.args.line.now in
    row_agrees l _ _ (bytes_of l (λ i. omega (arith, c.type_inv.line i))) c.in-None.is c.row_in_turn.ensures.fact_1

pub returns-in-Some : goal.returns-in-Some
unfolding Agrees row_as RowInside line_as Placed
returns-in-Some c =
    let l = c.args.line.now in record { fact_1 = sym (row_agrees l _ _ (bytes_of l (λ i. omega (arith, c.type_inv.line i))) c.in-Some.is c.row_in_turn.ensures.fact_1); fact_2 = subst (RowInside l) c.in-Some.is c.row_in_turn.ensures.fact_2 }

pub returns-in-None : goal.returns-in-None
unfolding line_as Placed
returns-in-None c = record { fact_1 = c.refusal_of.ensures; fact_2 = tt }
