use native.Mathlib.Omega.{arith}
use Rattle.midicsv.proofs.SpellWriteLaws.{spelled_short, spelled_long}
use Rattle.midicsv.proofs.spell.put_spelled.Goals as goal

pub returns-then-text-gt-LONGEST : goal.returns-then-text-gt-LONGEST
returns-then-text-gt-LONGEST c = rw (spelled_long c.args.text.now (omega (arith, c.if-text-gt-LONGEST.true))) at c.put_octals.ensures

pub returns : goal.returns
returns c = rw (spelled_short c.args.text.now (omega (arith, c.if-text-gt-LONGEST.false))) at c.put_short.ensures
