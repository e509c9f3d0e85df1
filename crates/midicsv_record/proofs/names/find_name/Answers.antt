use mathlib.Core.Path.{sym, ◌∙◌}
use Rattle.midicsv_record.proofs.NameLaws.{found, not_here, not_found}
use Rattle.midicsv_record.proofs.names.find_name.Goals as goal

pub returns-then-same_name : goal.returns-then-same_name
returns-then-same_name c =
    let l = c.loop-name in
    found c.args.part.now l.name-index _ c.loop-name-test.true (sym (rw c.spelled.ensures at c.same_name.ensures) ∙ c.if-same_name.true) ∙ l.invariant

pub loop-name-preserved : goal.loop-name-preserved
loop-name-preserved c =
    let l = c.loop-name in
    sym (not_here c.args.part.now l.name-index _ c.loop-name-test.true (sym (rw c.spelled.ensures at c.same_name.ensures) ∙ c.if-same_name.false)) ∙ l.invariant

pub returns : goal.returns
returns c = let l = c.loop-name in not_found c.args.part.now l.name-index c.loop-name-test.false ∙ l.invariant
