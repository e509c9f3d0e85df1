use Rattle.smf.proofs.DivisionLaws.{bits_pulses, bits_frames, frames_small}
use native.Mathlib.Omega.{arith}
use Rattle.smf.proofs.header.division_bits.Goals as goal

pub overflow_sub-result : goal.overflow_sub-result
overflow_sub-result c = omega (arith, frames_small _ _ _ c.in-Frames.is c.requires)

pub overflow_add-result : goal.overflow_add-result
overflow_add-result c = omega (arith, frames_small _ _ _ c.in-Frames.is c.requires)

pub returns-in-Pulses : goal.returns-in-Pulses
returns-in-Pulses c = bits_pulses _ _ c.in-Pulses.is

pub returns-in-Frames : goal.returns-in-Frames
returns-in-Frames c = bits_frames _ _ _ c.in-Frames.is
