use mathlib.Core.Path.{◌≡◌}
use lib.ListN.{drop}
use Rattle.midicsv.specs.Names.{all_names, find}
use Rattle.midicsv_record.proofs.names.find_name.Given as goal

abbrev pub invariant-loop-name : goal.invariant-loop-name
invariant-loop-name l = find l.part (drop l.name-index all_names) ≡ find l.part all_names
