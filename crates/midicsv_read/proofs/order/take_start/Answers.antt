use mathlib.Core.List.{[]}
use Rattle.event.proofs.BytesLaws.{length_big_endian}
use Rattle.smf.specs.Chunk.{track_tag}
use Rattle.midicsv_read.proofs.TakeLaws.{start_phase, start_full, start_unmarked, start_moved}
use native.Mathlib.Omega.{arith}
use mathlib.Core.Path.{sym, ◌∙◌}
use Rattle.midicsv_read.proofs.PhaseLaws.{not_same, not_other}
use Rattle.midicsv_read.proofs.order.take_start.Goals as goal

pub returns-then-ne : goal.returns-then-ne
returns-then-ne c = let a = c.args in record { fact_1 = λ m. start_phase m a.st _ a.row [] (not_same a.st.phase _ c.if-ne.ensures); fact_2 = tt }

pub returns-then-st : goal.returns-then-st
returns-then-st c = let a = c.args in record { fact_1 = λ m. start_full m a.st _ a.row [] c.if-st.true; fact_2 = tt }

pub returns-then-not-is_marked : goal.returns-then-not-is_marked
returns-then-not-is_marked c = let a = c.args in
    record { fact_1 = λ m. start_unmarked m a.st _ a.row [] c.if-st.false (sym c.is_marked.ensures ∙ c.if-not-is_marked.true); fact_2 = tt }

pub put_big_endian-at-requires-clause-fact_1 : goal.put_big_endian-at-requires-clause-fact_1
put_big_endian-at-requires-clause-fact_1 c = omega (arith, c.put_big_endian-size.ensures.place, length_big_endian 4 track_tag, c.requires.at)

pub returns : goal.returns
returns c = let a = c.args in
    let x = c.put_big_endian-size.ensures in
    let y = c.put_big_endian-at.ensures in
    record { fact_1 = λ m. start_moved m a.st _ a.row _ _ _ _ (not_other a.st.phase _ c.if-ne.ensures) c.if-st.false (sym c.is_marked.ensures ∙ c.if-not-is_marked.false) x y; fact_2 = omega (arith, c.put_big_endian-size.ensures.place, c.put_big_endian-at.ensures.place, length_big_endian 4 track_tag, length_big_endian 4 0) }
