use Rattle.fold.proofs.RowLaws.{nearer_closed, nearer_none, nearer_less, nearer_late}
use mathlib.Core.Path.{sym}
use Rattle.fold.proofs.search.lesser.Goals as goal

pub returns-then-statuses-i-eq-ENDED : goal.returns-then-statuses-i-eq-ENDED
returns-then-statuses-i-eq-ENDED c = let a = c.args in sym (nearer_closed a.n a.times.now a.statuses.now a.best a.i c.if-statuses-i-eq-ENDED.true)

pub returns-then-best-n : goal.returns-then-best-n
returns-then-best-n c = let a = c.args in sym (nearer_none a.n a.times.now a.statuses.now a.best a.i c.if-statuses-i-eq-ENDED.false c.if-best-n.true)

pub returns-then-times-best : goal.returns-then-times-best
returns-then-times-best c = let a = c.args in sym (nearer_late a.n a.times.now a.statuses.now a.best a.i c.if-best-n.false c.if-times-best.true)

pub returns-then-statuses-i-eq-ENDED-2 : goal.returns-then-statuses-i-eq-ENDED-2
returns-then-statuses-i-eq-ENDED-2 c = let a = c.args in sym (nearer_closed a.n a.times.now a.statuses.now a.best a.i c.if-statuses-i-eq-ENDED-2.true)

pub returns : goal.returns
returns c = let a = c.args in sym (nearer_less a.n a.times.now a.statuses.now a.best a.i c.if-statuses-i-eq-ENDED-2.false c.if-best-n.false c.if-times-best.false)
