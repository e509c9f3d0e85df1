use Rattle.midicsv_scan.proofs.FrameLaws.{trim_cr, trim_none, trim_empty}
use native.Mathlib.Omega.{arith}
use Rattle.midicsv_scan.proofs.frame.trim.Goals as goal

pub returns-in-13 : goal.returns-in-13
returns-in-13 c = trim_cr c.args.line.now (omega arith) (omega arith)

pub returns-in_default : goal.returns-in_default
returns-in_default c = trim_empty c.args.line.now (omega arith)

pub returns-in_default-2 : goal.returns-in_default-2
returns-in_default-2 c = trim_none c.args.line.now (omega arith) (omega arith)
