use Rattle.event.specs.Outcome.{value_or}
use Rattle.midicsv.specs.Result.{test}
use Rattle.midicsv.specs.ReadRecord.{read_signed}
use Rattle.midicsv_scan.specs.FieldAt.{field_as}
use Rattle.midicsv_record.specs.Column.{value_as}
use Rattle.midicsv_record.proofs.OtherFieldLaws.{no_signed}
use borrow.Author.Tests.{le-leb, lt-leb}
use mathlib.Core.Path.{refl}
use Rattle.midicsv_record.proofs.column.signed_of.Goals as goal

pub returns-in-Number : goal.returns-in-Number
unfolding value_as read_signed value_or field_as test
returns-in-Number c = λ l. rw (c.in-Number.is, le-leb _ _ c.if-value-most.true) refl

pub returns-in-Minus : goal.returns-in-Minus
unfolding value_as read_signed value_or field_as test
returns-in-Minus c = λ l. rw (c.in-Minus.is, le-leb _ _ c.if-value-least.true) refl

pub returns-in_default : goal.returns-in_default
unfolding value_as read_signed value_or field_as test
returns-in_default c = λ l. rw (c.in-Number.is, lt-leb _ _ c.if-value-most.false) refl

pub returns-in_default-2 : goal.returns-in_default-2
unfolding value_as read_signed value_or field_as test
returns-in_default-2 c = λ l. rw (c.in-Minus.is, lt-leb _ _ c.if-value-least.false) refl

pub returns-in_default-3 : goal.returns-in_default-3
unfolding value_as
returns-in_default-3 c = let a = c.args in λ l. no_signed a.most a.least a.all l a.f c.in_default.in_default-own.keys3
