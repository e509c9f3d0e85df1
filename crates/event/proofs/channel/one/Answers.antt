use Rattle.event.specs.Choice.{pick}
use Rattle.event.specs.Frame.{after}
use Rattle.event.specs.Reader.{kind_in}
use Rattle.event.specs.Step.{frame_at, kind_at}
use native.Mathlib.Omega.{arith}
use borrow.Author.Tests.{le-leb, lt-leb}
use Rattle.event.proofs.channel.one.Goals as goal

pub returns-in-0-to-207 : goal.returns-in-0-to-207
unfolding frame_at kind_at kind_in after pick
returns-in-0-to-207 c = let s = c.args.status in simp (le-leb s 0xcf (omega arith))

pub returns-in-208-to-255 : goal.returns-in-208-to-255
unfolding frame_at kind_at kind_in after pick
returns-in-208-to-255 c = let s = c.args.status in simp (lt-leb s 0xcf (omega arith))
