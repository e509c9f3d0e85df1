use Rattle.midicsv_scan.proofs.CutLaws.{in_line}
use Rattle.midicsv_scan.proofs.frame.line_at.Given as goal

abbrev pub ghost-past : goal.ghost-past
ghost-past a = in_line
