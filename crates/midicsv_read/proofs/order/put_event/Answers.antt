use Rattle.event.specs.Step.{end_of}
use Rattle.event.proofs.BytesLaws.{bytes_of}
use Rattle.event_write.specs.Head.{manner_of}
use Rattle.midicsv.proofs.RecordAcceptedLaws.{line_given}
use Rattle.midicsv_record.specs.Row.{record_in}
use Rattle.midicsv_read.specs.RowEvent.{status_after}
use Rattle.midicsv_read.proofs.RowEventLaws.{row_length}
use Rattle.midicsv_read.proofs.TakeEventLaws.{event_moved, event_ended}
use native.Mathlib.Omega.{arith}
use mathlib.Core.Path.{sym, ◌∙◌, ap}
use Rattle.midicsv_read.proofs.order.put_event.Goals as goal

pub overflow_cast-at : goal.overflow_cast-at
overflow_cast-at c = let a = c.args in
    let n = row_length (manner_of a.short) a.st.force a.delta.0 a.line.now a.row c.requires.fact_2.start c.requires.fact_2.len in
    record { fits = omega (arith, c.put_row-at.ensures.place, n, c.requires.fact_1.at, c.requires.fact_2.short) }

pub returns-then-is_end : goal.returns-then-is_end
returns-then-is_end c = let a = c.args in
    let l = a.line.now in
    let bytes = bytes_of l (λ i. omega (arith, c.type_inv.line i)) in
    let row = record_in l a.row in
    let ends = sym (ap end_of c.row_kind-kind.ensures) ∙ sym c.is_end.ensures ∙ c.if-is_end.true in
    let n = row_length (manner_of a.short) a.st.force a.delta.0 l a.row c.requires.fact_2.start c.requires.fact_2.len in
    record { fact_1 = event_ended (manner_of a.short) a.st _ row.track row.time row.values row.name _ _ a.row.start _ _ _ _ c.requires.fact_3 (line_given l row bytes c.requires.fact_2.reads) c.requires.fact_2.short c.requires.fact_4 c.put_row-at.ensures ends c.put_big_endian.ensures; fact_2 = omega (arith, c.put_row-at.ensures.place, n) }

pub returns : goal.returns
returns c = let a = c.args in
    let l = a.line.now in
    let bytes = bytes_of l (λ i. omega (arith, c.type_inv.line i)) in
    let row = record_in l a.row in
    let goes = sym (ap end_of c.row_kind-kind.ensures) ∙ sym c.is_end.ensures ∙ c.if-is_end.false in
    let force = c.status_after.ensures ∙ ap status_after c.row_kind-kind.ensures in
    let n = row_length (manner_of a.short) a.st.force a.delta.0 l a.row c.requires.fact_2.start c.requires.fact_2.len in
    record { fact_1 = event_moved (manner_of a.short) a.st _ row.track row.time row.values row.name _ a.row.start _ _ _ _ c.requires.fact_3 (line_given l row bytes c.requires.fact_2.reads) c.requires.fact_2.short c.requires.fact_4 c.put_row-at.ensures goes force; fact_2 = omega (arith, c.put_row-at.ensures.place, n) }
