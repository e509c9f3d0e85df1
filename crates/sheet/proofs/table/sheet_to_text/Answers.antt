use lib.ListN.{length}
use Rattle.event_write.proofs.WriteLaws.{after_measure, unmeasured, measured}
use Rattle.sheet_table.specs.Table.{table_text}
use Rattle.sheet_table.proofs.TableBoundLaws.{table_bound}
use Rattle.sheet.proofs.SheetAnswerLaws.{long_table, long_text_lem, small_room, written_text}
use native.Mathlib.Omega.{arith}
use mathlib.Core.Path.{◌≡◌, ◌∙◌, ap}
use Rattle.sheet.proofs.table.sheet_to_text.Goals as goal

pub returns-then-saved-gt-TABLE_LIMIT : goal.returns-then-saved-gt-TABLE_LIMIT
returns-then-saved-gt-TABLE_LIMIT c =
    let a = c.args in
    let w = long_table a.saved.now a.out.now c.if-saved-gt-TABLE_LIMIT.true in
    record { fact_1 = c.refuse.ensures ∙ w.0; fact_2 = w.1 }

pub returns-then-most-out : goal.returns-then-most-out
returns-then-most-out c =
    let a = c.args in
    let s = a.saved.now in
    let n = c.put_table-written.result in
    let size : n ≡ length (table_text s) = omega (arith, c.put_table-written.ensures.place) in
    let w = written_text s a.out.now c.if-saved-gt-TABLE_LIMIT.false n size (omega (arith, size, table_bound s, c.if-most-le-TEXT_LIMIT.true)) (omega (arith, size, table_bound s, c.if-most-out.true)) in
    record { fact_1 = c.success.ensures ∙ w.0; fact_2 = c.put_table-written.ensures.contents ∙ w.1 }

pub returns-then-need-gt-TEXT_LIMIT : goal.returns-then-need-gt-TEXT_LIMIT
returns-then-need-gt-TEXT_LIMIT c =
    let a = c.args in
    let m = c.put_table-need.ensures in
    let w = long_text_lem a.saved.now a.out.now c.if-saved-gt-TABLE_LIMIT.false _ (measured m) c.if-need-gt-TEXT_LIMIT.true in
    record { fact_1 = c.refuse-then-need-gt-TEXT_LIMIT.ensures ∙ w.0; fact_2 = unmeasured a.out.now m ∙ w.1 }

pub returns-then-out-need : goal.returns-then-out-need
returns-then-out-need c =
    let a = c.args in
    let old = a.out.now in
    let m = c.put_table-need.ensures in
    let kept = ap length (unmeasured old m) in
    let w = small_room a.saved.now old c.if-saved-gt-TABLE_LIMIT.false _ (measured m) c.if-need-gt-TEXT_LIMIT.false (omega (arith, kept, c.if-out-need.true)) in
    record { fact_1 = c.room_needed.ensures ∙ w.0; fact_2 = unmeasured old m ∙ w.1 }

pub returns : goal.returns
returns c =
    let a = c.args in
    let old = a.out.now in
    let m = c.put_table-need.ensures in
    let kept = ap length (unmeasured old m) in
    let w = written_text a.saved.now old c.if-saved-gt-TABLE_LIMIT.false _ (measured m) c.if-need-gt-TEXT_LIMIT.false (omega (arith, kept, c.if-out-need.false)) in
    record { fact_1 = c.success-2.ensures ∙ w.0; fact_2 = (after_measure m c.put_table.ensures).contents ∙ w.1 }
