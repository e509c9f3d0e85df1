use Rattle.std.proofs.Common.{get_or, arith}
use Rattle.std.proofs.lemmas.List.{take_rest}
use Rattle.event_write.proofs.WriteLaws.{then, nothing}
use Rattle.midicsv.proofs.SpellLaws.{byte_size}
use Rattle.midicsv.proofs.SpellWriteLaws.{short_none, short_some}
use Rattle.midicsv.proofs.spell.put_short.Goals as goal

pub returns-in_default : goal.returns-in_default
returns-in_default c = rw (short_none c.args.text.now c.in_default.len_below) (nothing _ _)

pub put_rest-requires-clause-fact_1 : goal.put_rest-requires-clause-fact_1
put_rest-requires-clause-fact_1 c = omega (arith, byte_size c.is_letter.result (get_or c.args.text.now 0 0))

pub returns : goal.returns
returns c =
    let first = rw c.is_letter.ensures at c.put_or_octal-next.ensures in
    let others = rw (c.is_truth.ensures, take_rest c.args.text.now 1) at c.put_rest.ensures in
    rw (short_some c.args.text.now (omega arith)) at (then first others)
