use mathlib.Core.Path.{sym, ◌∙◌}
use native.Mathlib.Omega.{arith}
use Rattle.midicsv_scan.proofs.FieldLaws.{first_none, first_quote, first_minus, first_digit, first_letter, first_other}
use Rattle.midicsv_scan.proofs.field.field_at.Goals as goal

pub returns-then-line-p : goal.returns-then-line-p
returns-then-line-p c = first_none _ _ _ c.skip_blanks-p.ensures c.if-line-p.true

pub returns-in-34 : goal.returns-in-34
returns-in-34 c = first_quote _ _ _ c.skip_blanks-p.ensures c.if-line-p.false c.in-34.is _ c.quoted_field.ensures

pub returns-in-45 : goal.returns-in-45
returns-in-45 c = first_minus _ _ _ c.skip_blanks-p.ensures c.if-line-p.false (omega arith) c.in-45.is _ c.minus_field.ensures

pub returns-in_default : goal.returns-in_default
returns-in_default c = first_digit _ _ _ c.skip_blanks-p.ensures c.if-line-p.false (omega arith) (omega arith) (sym c.is_digit.ensures ∙ c.if-is_digit.true) _ c.number_field.ensures

pub returns-in_default-2 : goal.returns-in_default-2
returns-in_default-2 c = first_letter _ _ _ c.skip_blanks-p.ensures c.if-line-p.false (omega arith) (omega arith) (sym c.is_digit.ensures ∙ c.if-is_digit.false) (sym c.is_letter.ensures ∙ c.if-is_letter.true) _ c.name_field.ensures

pub returns-in_default-3 : goal.returns-in_default-3
returns-in_default-3 c = first_other _ _ _ c.skip_blanks-p.ensures c.if-line-p.false (omega arith) (omega arith) (sym c.is_digit.ensures ∙ c.if-is_digit.false) (sym c.is_letter.ensures ∙ c.if-is_letter.false)
