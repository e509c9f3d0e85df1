use mathlib.Core.Path.{◌≡◌}
use Prim.Native.Nat.{◌+◌}
use lib.ListN.{length, drop}
use Rattle.event_write.proofs.WriteLaws.{Remains}
use Rattle.midicsv.specs.ReadField.{plain}
use Rattle.midicsv_scan.specs.Unquoted.{unquoted}
use Rattle.midicsv_record.specs.TextState.{seen_as, Small}
use Rattle.midicsv_read.proofs.write_row.put_quoted.Given as goal

abbrev pub invariant-loop-c : goal.invariant-loop-c
invariant-loop-c l = (length l.out ≡ length l.initial.out) × Small l.passed × Remains l.initial.out l.at (unquoted (drop l.start l.line) plain) l.out l.next (unquoted (drop (l.start + l.c-index) l.line) (seen_as l.passed))
