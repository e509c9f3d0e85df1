use Prim.Native.Nat.{suc, ◌+◌, ◌-◌}
use mathlib.Core.Path.{◌≡◌}
use native.Mathlib.Omega.{arith}
use lib.ListN.{drop}
use Rattle.midicsv_scan.specs.FieldAt.{field_as}
use Rattle.midicsv_record.specs.InTurn.{DataEnd}
use Rattle.midicsv_record.proofs.BodyLaws.{data_on, data_off, data_missing, data_done}
use Rattle.midicsv_record.proofs.body.are_data.Goals as goal

pub returns-in_default : goal.returns-in_default
unfolding field_as
returns-in_default c =
    let k = c.loop in
    let l = c.args.line.now in
    let few : c.args.len - k.counter ≡ suc (c.args.len - (k.counter + 1)) = omega arith in
    data_missing (DataEnd c.args.len (drop c.args.comma l)) l k.at _ (rw few at k.invariant) c.in_default.ensures.fact_1

pub returns-then-is_none : goal.returns-then-is_none
returns-then-is_none c =
    let k = c.loop in
    let l = c.args.line.now in
    let few : c.args.len - k.counter ≡ suc (c.args.len - (k.counter + 1)) = omega arith in
    data_off (DataEnd c.args.len (drop c.args.comma l)) l k.at _ (rw few at k.invariant) c.in-Some.f c.in-Some.ensures.fact_1 _ (c.number_in.ensures l) c.if-is_none.ensures

pub loop-preserved : goal.loop-preserved
loop-preserved c =
    let k = c.loop in
    let l = c.args.line.now in
    let few : c.args.len - k.counter ≡ suc (c.args.len - (k.counter + 1)) = omega arith in
    rw c.next-at.ensures
    (data_on (DataEnd c.args.len (drop c.args.comma l)) l k.at _ (rw few at k.invariant) c.in-Some.f c.in-Some.ensures.fact_1 _ (c.number_in.ensures l) c.if-is_none.ensures)

pub returns : goal.returns
returns c =
    let k = c.loop in
    let none : c.args.len - k.counter ≡ 0 = omega arith in
    k.invariant _ (rw none (data_done c.args.line.now k.at))
