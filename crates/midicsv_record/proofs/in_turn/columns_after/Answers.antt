use mathlib.Core.Path.{◌≡◌, refl, ◌∙◌}
use mathlib.Core.List.{[]}
use Prim.Native.Nat.{◌<◌}
use native.Mathlib.Omega.{arith}
use lib.ListN.{length, drop, length-set}
use Rattle.midicsv_record.specs.Name.{name_at}
use Rattle.midicsv_record.specs.Table.{columns_at}
use Rattle.midicsv_record.specs.InTurn.{cell_as, columns_as}
use Rattle.midicsv_record.proofs.FiveLaws.{few_columns}
use Rattle.midicsv_record.proofs.InTurnLaws.{none_read, one_read, none_fits, all_read, column_here, columns_counted}
use Rattle.midicsv_record.proofs.in_turn.columns_after.Goals as goal

pub loop-i-init : goal.loop-i-init
loop-i-init c = (refl, none_read (columns_at c.args.name) (drop c.args.comma c.args.line.now) [])

pub returns-in_err-cell : goal.returns-in_err-cell
unfolding columns_as cell_as
returns-in_err-cell c =
    let l = c.loop-i in
    let cs = columns_at c.args.name in
    rw c.from_residual.ensures
    (none_fits cs _ l.values l.i _ l.invariant.1 _ (column_here c.columns-column-items.result.now cs l.i _ c.columns-column-items.ensures c.loop-i-test.true) c.in_err-cell.ensures)

pub bounds-values-i : goal.bounds-values-i
bounds-values-i c = omega (arith, c.loop-i-test.true, columns_counted c.columns-column-items.result.now (columns_at c.args.name) c.columns-column-items.ensures, few_columns (name_at c.args.name))

pub loop-i-preserved : goal.loop-i-preserved
unfolding cell_as
loop-i-preserved c =
    let l = c.loop-i in
    let cs = columns_at c.args.name in
    let some : l.i < length l.values = omega (arith, l.invariant.0, c.loop-i-test.true, columns_counted c.columns-column-items.result.now cs c.columns-column-items.ensures, few_columns (name_at c.args.name)) in (
      length-set l.values l.i _ ∙ l.invariant.0,
      one_read cs _ l.values l.i _ l.invariant.1 _ (column_here c.columns-column-items.result.now cs l.i _ c.columns-column-items.ensures c.loop-i-test.true) _ _ some c.in_ok-cell.ensures,
    )

pub returns : goal.returns
unfolding columns_as
returns c =
    let l = c.loop-i in
    let all : l.i ≡ length (columns_at c.args.name) = omega (arith, l.auto.i-end, c.loop-i-test.false, columns_counted c.columns-column-items.result.now (columns_at c.args.name) c.columns-column-items.ensures) in
    all_read (columns_at c.args.name) _ l.values _ (rw all at l.invariant.1)
