use Prim.Native.Nat.{◌+◌, ◌-◌}
use Rattle.event.specs.Choice.{pick}
use Rattle.event.specs.Step.{data_at}
use native.Mathlib.Omega.{arith}
use borrow.Author.Tests.{le-leb, lt-leb}
use mathlib.Core.Path.{◌≡◌}
use Rattle.event.proofs.number.event_data.Goals as goal

pub returns-then-len-body : goal.returns-then-len-body
unfolding data_at pick
returns-then-len-body c = let a = c.args in
    let back : a.start + a.len - a.start ≡ a.len = omega arith in
    simp (le-leb _ _ c.if-start-body.true, le-leb _ _ c.if-len-body.true, back)

pub returns-then-start-body : goal.returns-then-start-body
unfolding data_at pick
returns-then-start-body c = simp (le-leb _ _ c.if-start-body.true, lt-leb _ _ c.if-len-body.false)

pub returns : goal.returns
unfolding data_at pick
returns c = simp (lt-leb _ _ c.if-start-body.false)
