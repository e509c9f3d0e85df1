use lib.ListN.{get_or-eq_default}
use lib.Seq.{get_or-drop}
use native.Mathlib.Omega.{arith}
use mathlib.Core.Path.{sym, ◌∙◌}
use Rattle.event.proofs.number.byte_at.Goals as goal

pub returns-then-k-body : goal.returns-then-k-body
returns-then-k-body c = sym (get_or-drop c.args.at c.args.body.now c.args.k 0)

pub returns-then-at-body : goal.returns-then-at-body
returns-then-at-body c = sym (get_or-drop c.args.at c.args.body.now c.args.k 0 ∙ get_or-eq_default c.args.body.now 0 (omega arith))

pub returns : goal.returns
returns c = sym (get_or-drop c.args.at c.args.body.now c.args.k 0 ∙ get_or-eq_default c.args.body.now 0 (omega arith))
