use mathlib.Core.Path.{sym, ◌∙◌}
use Rattle.sheet.proofs.SeparatorLaws.{sep_over, sep_here, sep_none}
use Rattle.sheet.proofs.table.separator.Goals as goal

pub returns-then-not-passed_over : goal.returns-then-not-passed_over
returns-then-not-passed_over c = c.separator_in.ensures ∙ sep_here _ c.loop-at.at _ _ c.line_at-cut.ensures _ c.trim-line.ensures (sym c.if-not-passed_over.ensures) ∙ c.loop-at.invariant

pub loop-at-preserved : goal.loop-at-preserved
loop-at-preserved c = sep_over _ c.loop-at.at _ _ c.line_at-cut.ensures _ c.trim-line.ensures (sym c.if-not-passed_over.ensures) ∙ c.loop-at.invariant

pub returns : goal.returns
returns c = sep_none _ c.loop-at.at c.loop-at-test.false ∙ c.loop-at.invariant
