use native.Mathlib.Omega.{arith}
use Rattle.smf.proofs.DivisionLaws.{low_ok, high_ok, high_not, rate_low, rate_high, rate_none}
use Rattle.smf.proofs.header.division_ok.Goals as goal

pub returns-then-bits-le-MOST_PULSES : goal.returns-then-bits-le-MOST_PULSES
returns-then-bits-le-MOST_PULSES c = low_ok _ c.if-bits-le-MOST_PULSES.true

pub returns-in-226 : goal.returns-in-226
returns-in-226 c = high_ok _ c.if-bits-le-MOST_PULSES.false (grind (arith, rate_low, rate_high))

pub returns-in_default : goal.returns-in_default
returns-in_default c = high_not _ c.if-bits-le-MOST_PULSES.false (rate_none _ (λ e. omega arith) (λ e. omega arith) (λ e. omega arith) (λ e. omega arith))

pub returns-in_default-2 : goal.returns-in_default-2
returns-in_default-2 c = high_not _ c.if-bits-le-MOST_PULSES.false (rate_none _ (λ e. omega arith) (λ e. omega arith) (λ e. omega arith) (λ e. omega arith))

pub returns-in_default-3 : goal.returns-in_default-3
returns-in_default-3 c = high_not _ c.if-bits-le-MOST_PULSES.false (rate_none _ (λ e. omega arith) (λ e. omega arith) (λ e. omega arith) (λ e. omega arith))
