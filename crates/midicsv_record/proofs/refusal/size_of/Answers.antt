use Prim.Native.Nat.{◌+◌, ◌<◌}
use lib.ListN.{length}
use Rattle.midicsv.specs.Table.{none, one_text, sized}
use Rattle.midicsv_record.specs.Table.{columns_at, tail_at, tail_as}
use Rattle.midicsv_record.specs.Column.{value_as}
use Rattle.midicsv_record.specs.Line.{size_as}
use Rattle.midicsv_record.proofs.InTurnLaws.{columns_counted}
use Rattle.midicsv_record.proofs.FieldInLaws.{number_there}
use Rattle.midicsv_record.proofs.SizeLaws.{size_none, size_text, size_missing, size_off, size_sized}
use mathlib.Core.Path.{◌≡◌, sym, ◌∙◌, ap}
use Rattle.midicsv_record.proofs.refusal.size_of.Goals as goal

pub returns-then-count-k : goal.returns-then-count-k
unfolding tail_as size_as value_as
returns-then-count-k c =
    let a = c.args in
    let e : tail_at a.name ≡ sized = sym c.tail_kind.ensures ∙ ap tail_as c.in-Sized.is in
    size_missing a.line.now a.count a.name c.requires e (rw (columns_counted c.columns.result.now (columns_at c.args.name) c.columns.ensures) at c.if-count-k.true)

pub returns-in-NoTail : goal.returns-in-NoTail
unfolding tail_as size_as value_as
returns-in-NoTail c =
    let a = c.args in
    let e : tail_at a.name ≡ none = sym c.tail_kind.ensures ∙ ap tail_as c.in-NoTail.is in
    (rw (columns_counted c.columns.result.now (columns_at c.args.name) c.columns.ensures) at c.size_step.ensures) ∙ size_none a.line.now a.count a.name c.requires e

pub returns-in-OneText : goal.returns-in-OneText
unfolding tail_as size_as value_as
returns-in-OneText c =
    let a = c.args in
    let e : tail_at a.name ≡ one_text = sym c.tail_kind.ensures ∙ ap tail_as c.in-OneText.is in
    (rw (columns_counted c.columns.result.now (columns_at c.args.name) c.columns.ensures) at c.size_step-in-OneText.ensures) ∙ size_text a.line.now a.count a.name c.requires e

pub returns-in_default : goal.returns-in_default
unfolding tail_as size_as value_as
returns-in_default c =
    let a = c.args in
    let l = a.line.now in
    let f = c.requires in
    let e : tail_at a.name ≡ sized = sym c.tail_kind.ensures ∙ ap tail_as c.in-Sized.is in
    let h : 3 + length (columns_at a.name) < a.count = rw (columns_counted c.columns.result.now (columns_at c.args.name) c.columns.ensures) at c.if-count-k.false in
    let x = number_there l _ c.field.result c.and_then.result f.fields (rw f.counts h) (rw (columns_counted c.columns.result.now (columns_at c.args.name) c.columns.ensures) at c.field.ensures) c.and_then.ensures in
    size_off l a.count a.name f e h (rw c.in_default.is at x)

pub returns-in-Some : goal.returns-in-Some
unfolding tail_as size_as value_as
returns-in-Some c =
    let a = c.args in
    let l = a.line.now in
    let f = c.requires in
    let e : tail_at a.name ≡ sized = sym c.tail_kind.ensures ∙ ap tail_as c.in-Sized.is in
    let h : 3 + length (columns_at a.name) < a.count = rw (columns_counted c.columns.result.now (columns_at c.args.name) c.columns.ensures) at c.if-count-k.false in
    let x = number_there l _ c.field.result c.and_then.result f.fields (rw f.counts h) (rw (columns_counted c.columns.result.now (columns_at c.args.name) c.columns.ensures) at c.field.ensures) c.and_then.ensures in
    (rw (columns_counted c.columns.result.now (columns_at c.args.name) c.columns.ensures) at c.size_step-in-Sized.ensures) ∙ size_sized l a.count a.name f e h _ (rw c.in-Some.is at x)
