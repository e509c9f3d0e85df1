use native.Mathlib.Omega.{arith}
use Rattle.sheet.proofs.SeparatorLaws.{unmarked_short, mark_is, no_mark_first, no_mark_second, no_mark_third}
use Rattle.sheet.proofs.table.without_mark.Goals as goal

pub returns-in-239 : goal.returns-in-239
returns-in-239 c = mark_is _ (omega arith) (omega arith) (omega arith) (omega arith)

pub returns-in_default : goal.returns-in_default
returns-in_default c = unmarked_short _ (omega arith)

pub returns-in_default-2 : goal.returns-in_default-2
returns-in_default-2 c = no_mark_third _ (omega arith) (omega arith) (omega arith) (omega arith)

pub returns-in_default-3 : goal.returns-in_default-3
returns-in_default-3 c = no_mark_second _ (omega arith) (omega arith) (omega arith)

pub returns-in_default-4 : goal.returns-in_default-4
returns-in_default-4 c = no_mark_first _ (omega arith) (omega arith)
