use Rattle.std.proofs.Common.{◌+◌, arith}
use mathlib.Core.Path.{refl, sym, ◌∙◌}
use borrow.Author.Tests.{le-leb, lt-leb}
use Rattle.event.specs.Dates.{later_of}
use Rattle.event.specs.Choice.{pick}
use Rattle.event.proofs.Time.later.Goals as goal

pub returns-in_err-sum : goal.returns-in_err-sum
unfolding later_of pick
returns-in_err-sum c = c.from_residual.ensures ∙ sym (simp (lt-leb (c.args.self.0 + c.args.d.0) 4294967295 (omega (arith, c.in_err-sum.ensures))))

pub returns : goal.returns
unfolding later_of pick
returns c = let (fits, same) = c.in_ok-sum.ensures in rw (le-leb (c.args.self.0 + c.args.d.0) 4294967295 (omega (arith, fits)), same) refl
