use Rattle.midicsv_scan.proofs.TextLaws.{plain_quote, plain_slash, plain_return, plain_other}
use native.Mathlib.Omega.{arith}
use Rattle.midicsv_scan.proofs.text.after_plain.Goals as goal

pub returns-in-34 : goal.returns-in-34
returns-in-34 c = plain_quote _ c.in-34.is

pub returns-in-92 : goal.returns-in-92
returns-in-92 c = plain_slash _ (omega arith) c.in-92.is

pub returns-in-13 : goal.returns-in-13
returns-in-13 c = plain_return _ (omega arith) (omega arith) c.in-13.is

pub returns-in_default : goal.returns-in_default
returns-in_default c = plain_other _ (omega arith) (omega arith) (omega arith)
