use Prim.Native.Nat.{suc, ◌+◌, ◌-◌}
use lib.ListN.{drop}
use Rattle.midicsv_read.proofs.DataLaws.{data_count, data_on, data_end}
use native.Mathlib.Omega.{arith}
use mathlib.Core.Path.{◌≡◌}
use borrow.Author.Rules.{rules}
use Rattle.midicsv_read.proofs.write_row.put_data.Goals as goal

pub put_byte-next-requires : goal.put_byte-next-requires
put_byte-next-requires c = let a = c.args in let l = c.loop in
    omega (arith, l.invariant.1.remains.place, data_count a.len (drop a.start a.line.now), c.requires.fact_1, c.requires.fact_3)

pub loop-preserved : goal.loop-preserved
loop-preserved c =
    let l = c.loop in
    let few : c.args.len - l.counter ≡ suc (c.args.len - (l.counter + 1)) = omega arith in
    (search rules, data_on c.args.line.now l.place _ c.data_at-step.result (rw few at l.invariant.1) c.data_at-step.ensures c.put_byte-next.ensures)

pub returns : goal.returns
returns c =
    let l = c.loop in
    let none : c.args.len - l.counter ≡ 0 = omega arith in
    data_end c.args.line.now l.place (rw none at l.invariant.1)
