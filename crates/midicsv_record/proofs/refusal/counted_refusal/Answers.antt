use Rattle.midicsv_record.specs.InTurn.{Refused}
use Rattle.midicsv_record.proofs.LineLaws.{line_few, fields_count}
use Rattle.midicsv_record.proofs.RefusalLaws.{third_is, third_there}
use mathlib.Core.Path.{sym, subst, ◌∙◌}
use Rattle.midicsv_record.proofs.refusal.counted_refusal.Goals as goal

pub returns-then-count-lt3 : goal.returns-then-count-lt3
returns-then-count-lt3 c = line_few c.args.line.now c.args.count c.requires.fact_1 c.if-count-lt3.true

pub returns-in_default : goal.returns-in_default
returns-in_default c = third_there c.args.line.now c.args.count c.requires.fact_1 c.if-count-lt3.false c.in_default.ensures

pub named_refusal-requires : goal.named_refusal-requires
named_refusal-requires c =
    let counted = c.requires.fact_1 in
    let three = c.if-count-lt3.false in
    record { fact_1 = fields_count _ _ counted three; fact_2 = subst Refused (sym (third_is _ _ counted three _ c.in-Some.ensures _ c.name_of-name.ensures)) c.requires.fact_2 }

pub returns : goal.returns
returns c = c.named_refusal.ensures ∙ third_is _ _ c.requires.fact_1 c.if-count-lt3.false _ c.in-Some.ensures _ c.name_of-name.ensures
