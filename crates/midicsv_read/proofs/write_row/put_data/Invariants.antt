use Prim.Native.Nat.{◌-◌}
use lib.ListN.{length, drop}
use Rattle.midicsv_record.specs.Row.{data_from}
use Rattle.midicsv_read.proofs.DataLaws.{DataLeft}
use mathlib.Core.Path.{◌≡◌}
use Rattle.midicsv_read.proofs.write_row.put_data.Given as goal

abbrev pub invariant-loop : goal.invariant-loop
invariant-loop l = (length l.out ≡ length l.initial.out) × DataLeft l.line l.initial.out l.at (data_from l.len (drop l.start l.line)) l.out l.next l.place (l.len - l.counter)
