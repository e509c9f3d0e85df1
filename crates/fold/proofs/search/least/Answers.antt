use Prim.Native.Nat.{◌-◌, ◌+◌}
use Rattle.fold.proofs.RowLaws.{least_more, least_none, nearer_within}
use native.Mathlib.Omega.{arith}
use mathlib.Core.Path.{◌≡◌, sym, ◌∙◌, ap}
use Rattle.fold.specs.Code.Search.{least_from, least_of, nearer}
use Rattle.fold.proofs.search.least.Goals as goal

pub loop-i-init : goal.loop-i-init
unfolding least_of
loop-i-init c = let a = c.args in let e : a.n - 0 ≡ a.n = omega arith in (omega arith, omega arith, ap (λ z. least_from z a.n 0 a.n a.times.now a.statuses.now) e)

pub loop-i-preserved : goal.loop-i-preserved
unfolding least_of
loop-i-preserved c = let a = c.args in let l = c.loop-i in
    let ts = a.times.now in let ss = a.statuses.now in
    let e : a.n - l.i - 1 ≡ a.n - (l.i + 1) = omega arith in
    let r = c.lesser-best.ensures in (
      omega (arith, c.loop-i-test.true),
      rw r (nearer_within a.n ts ss l.best l.i l.invariant.1 c.loop-i-test.true),
      ap (λ z. least_from (a.n - (l.i + 1)) a.n (l.i + 1) z ts ss) r ∙ ap (λ z. least_from z a.n (l.i + 1) (nearer a.n ts ss l.best l.i) ts ss) (sym e) ∙ sym (least_more (a.n - l.i) a.n l.i l.best ts ss (omega (arith, c.loop-i-test.true))) ∙ l.invariant.2,
    )

pub returns : goal.returns
unfolding least_of
returns c = let a = c.args in let l = c.loop-i in sym (least_none (a.n - l.i) a.n l.i l.best a.times.now a.statuses.now (omega (arith, c.loop-i-test.false))) ∙ l.invariant.2
