use Rattle.std.proofs.Common.{arith}
use mathlib.Core.Path.{refl, sym, ◌∙◌}
use borrow.Author.Tests.{le-leb, lt-leb}
use Rattle.event.specs.Dates.{since_of}
use Rattle.event.specs.Choice.{pick}
use Rattle.event.proofs.Time.since.Goals as goal

pub returns-in_err-step : goal.returns-in_err-step
unfolding since_of pick
returns-in_err-step c = c.from_residual.ensures ∙ sym (simp (lt-leb c.args.earlier.0 c.args.self.0 (omega (arith, c.in_err-step.ensures))))

pub returns : goal.returns
unfolding since_of pick
returns c = let (fits, same) = c.in_ok-step.ensures in rw (le-leb c.args.earlier.0 c.args.self.0 fits, same) refl
