use Rattle.event_write.proofs.WriteLaws.{then}
use Rattle.midicsv.specs.Show.{quote, spell_in}
use Rattle.midicsv.proofs.SpellLaws.{spell_size}
use native.Mathlib.Omega.{arith}
use Rattle.midicsv.proofs.spell.put_cell_text.Goals as goal

pub put_byte-requires : goal.put_byte-requires
put_byte-requires c = omega (arith, c.put_spelled-b.ensures.place, c.put_byte-a.ensures.place, spell_size c.args.text.now)

pub returns : goal.returns
unfolding quote spell_in
returns c = then c.put_byte-a.ensures (then c.put_spelled-b.ensures c.put_byte.ensures)
