use mathlib.Core.Path.{refl}
use borrow.Author.Tests.{eq-eqb, ne_eqb}
use Rattle.sheet.proofs.BlankLaws.{remark_none, remark_first}
use Rattle.sheet.proofs.LinePart.is_remark.Goals as goal

pub returns-then-self-p : goal.returns-then-self-p
returns-then-self-p c = remark_none _ _ _ _ c.skip_beside-p.ensures c.if-self-p.true

pub returns-then-self-p-eq35 : goal.returns-then-self-p-eq35
returns-then-self-p-eq35 c = rw (remark_first _ c.args.self.twice _ _ c.skip_beside-p.ensures c.if-self-p.false) (rw (eq-eqb _ 35 c.if-self-p-eq35.true) refl)

pub returns-then-self-p-eq59 : goal.returns-then-self-p-eq59
returns-then-self-p-eq59 c = rw (remark_first _ c.args.self.twice _ _ c.skip_beside-p.ensures c.if-self-p.false) (rw (ne_eqb _ 35 c.if-self-p-eq35.false, eq-eqb _ 59 c.if-self-p-eq59.true) refl)

pub returns-else-self-p-eq59 : goal.returns-else-self-p-eq59
returns-else-self-p-eq59 c = rw (remark_first _ c.args.self.twice _ _ c.skip_beside-p.ensures c.if-self-p.false) (rw (ne_eqb _ 35 c.if-self-p-eq35.false, ne_eqb _ 59 c.if-self-p-eq59.false) refl)
