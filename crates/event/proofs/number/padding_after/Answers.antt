use Rattle.event.specs.Choice.{pick}
use native.Mathlib.Omega.{arith}
use mathlib.Core.Path.{refl}
use borrow.Author.Tests.{eq-eqb, ne_eqb}
use Rattle.event.proofs.number.padding_after.Goals as goal

pub returns-then-acc-eq0 : goal.returns-then-acc-eq0
unfolding pick
returns-then-acc-eq0 c = rw (eq-eqb c.args.acc 0 (omega (arith, c.if-acc-eq0.true))) refl

pub returns : goal.returns
unfolding pick
returns c = rw (ne_eqb c.args.acc 0 (omega (arith, c.if-acc-eq0.false))) refl
