use Rattle.fold.proofs.RowLaws.{after_other, after_closed, after_same}
use native.Mathlib.Omega.{arith}
use mathlib.Core.Path.{◌∙◌}
use Rattle.fold.proofs.search.least_after.Goals as goal

pub returns-then-times-i : goal.returns-then-times-i
returns-then-times-i c = let a = c.args in c.least.ensures ∙ after_other a.n a.times.now a.statuses.now a.i a.time (λ z. omega (arith, z, c.if-times-i.true))

pub returns-then-statuses-i-eq-ENDED : goal.returns-then-statuses-i-eq-ENDED
returns-then-statuses-i-eq-ENDED c = let a = c.args in c.least-then-statuses-i-eq-ENDED.ensures ∙ after_closed a.n a.times.now a.statuses.now a.i a.time (omega (arith, c.if-times-i.false)) (omega (arith, c.if-statuses-i-eq-ENDED.true))

pub returns : goal.returns
returns c = let a = c.args in after_same a.n a.times.now a.statuses.now a.i a.time (omega (arith, c.if-times-i.false)) (λ z. omega (arith, z, c.if-statuses-i-eq-ENDED.false))
