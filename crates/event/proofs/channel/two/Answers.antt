use Rattle.event.specs.Choice.{pick}
use Rattle.event.specs.Frame.{after}
use Rattle.event.specs.Reader.{kind_in, kind2}
use Rattle.event.specs.Step.{frame_at, kind_at}
use native.Mathlib.Omega.{arith}
use borrow.Author.Tests.{le-leb, lt-leb}
use Rattle.event.proofs.channel.two.Goals as goal

pub returns-in-0-to-143 : goal.returns-in-0-to-143
unfolding frame_at kind_at kind_in kind2 after pick
returns-in-0-to-143 c = let s = c.args.status in simp (le-leb s 0x8f (omega arith))

pub returns-in-144-to-159 : goal.returns-in-144-to-159
unfolding frame_at kind_at kind_in kind2 after pick
returns-in-144-to-159 c = let s = c.args.status in simp (lt-leb s 0x8f (omega arith), le-leb s 0x9f (omega arith))

pub returns-in-160-to-175 : goal.returns-in-160-to-175
unfolding frame_at kind_at kind_in kind2 after pick
returns-in-160-to-175 c = let s = c.args.status in simp (lt-leb s 0x8f (omega arith), lt-leb s 0x9f (omega arith), le-leb s 0xaf (omega arith))

pub returns-in-176-to-191 : goal.returns-in-176-to-191
unfolding frame_at kind_at kind_in kind2 after pick
returns-in-176-to-191 c = let s = c.args.status in simp (lt-leb s 0x8f (omega arith), lt-leb s 0x9f (omega arith), lt-leb s 0xaf (omega arith), le-leb s 0xbf (omega arith))

pub returns-in-192-to-255 : goal.returns-in-192-to-255
unfolding frame_at kind_at kind_in kind2 after pick
returns-in-192-to-255 c = let s = c.args.status in simp (lt-leb s 0x8f (omega arith), lt-leb s 0x9f (omega arith), lt-leb s 0xaf (omega arith), lt-leb s 0xbf (omega arith))
