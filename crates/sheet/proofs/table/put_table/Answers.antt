use mathlib.Core.Path.{ap}
use lib.ListN.{length}
use native.Mathlib.Omega.{arith}
use Rattle.sheet_table.proofs.TableBoundLaws.{table_bound}
use Rattle.sheet.proofs.TableLeftLaws.{whole_left, unmarked_size}
use Rattle.sheet.proofs.table.put_table.Goals as goal

pub put_lines-requires : goal.put_lines-requires
put_lines-requires c =
    let s = c.args.saved.now in
    let whole = whole_left s _ _ c.without_mark-table.ensures c.separator.ensures in
    record { fact_1 = omega (arith, ap length c.without_mark-table.ensures, unmarked_size s, c.requires); fact_2 = omega (arith, ap length whole, table_bound s, c.requires) }

pub returns : goal.returns
returns c = rw (whole_left c.args.saved.now _ _ c.without_mark-table.ensures c.separator.ensures) at c.put_lines.ensures
