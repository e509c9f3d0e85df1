use Rattle.smf.proofs.DivisionLaws.{pulses_are, frames_are}
use Rattle.smf.proofs.header.division_of.Goals as goal

pub returns-then-bits-le-MOST_PULSES : goal.returns-then-bits-le-MOST_PULSES
returns-then-bits-le-MOST_PULSES c = pulses_are _ c.if-bits-le-MOST_PULSES.true

pub returns : goal.returns
returns c = frames_are _ c.if-bits-le-MOST_PULSES.false
