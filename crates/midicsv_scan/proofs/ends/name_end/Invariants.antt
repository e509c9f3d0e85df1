use Rattle.midicsv.specs.ReadField.{is_letter}
use Rattle.midicsv_scan.proofs.ends.name_end.Given as goal

abbrev pub ghost-past : goal.ghost-past
ghost-past a = is_letter
