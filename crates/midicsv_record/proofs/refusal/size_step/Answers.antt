use Rattle.midicsv.specs.Result.{test}
use Rattle.midicsv_record.specs.Line.{size_as}
use borrow.Author.Tests.{eq-eqb, ne_eqb}
use mathlib.Core.Path.{refl}
use Rattle.midicsv_record.proofs.refusal.size_step.Goals as goal

pub returns-then-count-wanted : goal.returns-then-count-wanted
unfolding size_as test
returns-then-count-wanted c = rw (ne_eqb _ _ c.if-count-wanted.true) refl

pub returns : goal.returns
unfolding size_as test
returns c = rw (eq-eqb _ _ c.if-count-wanted.false) refl
