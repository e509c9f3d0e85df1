use Rattle.midicsv.specs.ReadField.{is_blank}
use Rattle.midicsv_scan.proofs.ends.skip_blanks.Given as goal

abbrev pub ghost-past : goal.ghost-past
ghost-past a = is_blank
