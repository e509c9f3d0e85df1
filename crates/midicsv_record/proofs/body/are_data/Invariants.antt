use Prim.Native.Nat.{◌-◌}
use mathlib.Core.Bool.{Bool}
use lib.ListN.{drop}
use Rattle.midicsv_record.specs.InTurn.{DataEnd}
use Rattle.midicsv_record.proofs.body.are_data.Given as goal

abbrev pub invariant-loop : goal.invariant-loop
invariant-loop l = (b : Bool) → DataEnd (l.len - l.counter) (drop l.at l.line) b → DataEnd l.len (drop l.comma l.line) b
