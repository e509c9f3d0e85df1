use Rattle.std.proofs.Common.{take, IfSome}
use Rattle.std.specs.Fmt.{IsPlainFormatter, HasWritten}
use Rattle.program_io.specs.Shown.{listed}
use Rattle.program_io.proofs.ListedDisplay.fmt.Given as goal

abbrev pub invariant-loop-number : goal.invariant-loop-number
invariant-loop-number g l =
    IsPlainFormatter l.initial.f
    → IfSome (listed g.N.Display.output (take l.number-index l.number-items)) (λ bs. HasWritten g.W.Write.write_str_gives l.initial.f bs l.f)
