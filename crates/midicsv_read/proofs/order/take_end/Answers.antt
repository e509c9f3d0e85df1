use Rattle.midicsv_read.proofs.TakeLaws.{end_phase, end_few, end_unmarked, end_moved}
use native.Mathlib.Omega.{arith}
use mathlib.Core.Path.{sym, ◌∙◌}
use Rattle.midicsv_read.proofs.PhaseLaws.{not_same, not_other}
use Rattle.midicsv_read.proofs.order.take_end.Goals as goal

pub returns-then-ne : goal.returns-then-ne
returns-then-ne c = let a = c.args in record { fact_1 = λ out m. end_phase m a.st out a.row out (not_same a.st.phase _ c.if-ne.ensures); fact_2 = tt }

pub returns-then-st : goal.returns-then-st
returns-then-st c = let a = c.args in record { fact_1 = λ out m. end_few m a.st out a.row out (λ e. omega (arith, c.if-st.true, e)); fact_2 = tt }

pub returns-then-not-is_marked : goal.returns-then-not-is_marked
returns-then-not-is_marked c = let a = c.args in
    record { fact_1 = λ out m. end_unmarked m a.st out a.row out (omega (arith, c.if-st.false)) (sym c.is_marked.ensures ∙ c.if-not-is_marked.true); fact_2 = tt }

pub returns : goal.returns
returns c = let a = c.args in
    record { fact_1 = λ out m. end_moved m a.st out a.row (not_other a.st.phase _ c.if-ne.ensures) (omega (arith, c.if-st.false)) (sym c.is_marked.ensures ∙ c.if-not-is_marked.false); fact_2 = omega arith }
