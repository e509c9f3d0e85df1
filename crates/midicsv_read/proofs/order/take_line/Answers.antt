use mathlib.Core.List.{[]}
use Prim.Native.Nat.{◌+◌, ◌≤◌}
use lib.ListN.{length}
use Rattle.event_write.specs.Head.{manner_of}
use Rattle.midicsv.specs.PieceOfText.{text_limit}
use Rattle.midicsv_record.specs.Row.{record_in}
use Rattle.midicsv_scan.proofs.FrameLaws.{trimmed_size}
use Rattle.midicsv_read.proofs.TakeLineLaws.{near_wider, row_of_lem, wrong_of, line_over, line_wrong, line_taken}
use native.Mathlib.Omega.{arith}
use mathlib.Core.Path.{sym, ◌∙◌}
use Rattle.std.proofs.lemmas.Result.{err_from_is_err_and}
use Rattle.midicsv_read.proofs.order.take_line.Goals as goal

pub returns-then-passed_over : goal.returns-then-passed_over
returns-then-passed_over c = let a = c.args in
    record { fact_1 = line_over (manner_of a.short) a.st _ a.line.now c.trim-body.result.now c.trim-body.ensures (sym c.passed_over.ensures ∙ c.if-passed_over.true); fact_2 = omega arith }

pub take_row-requires : goal.take_row-requires
take_row-requires c = let a = c.args in
    let b = c.trim-body.result.now in
    let size : length b ≤ text_limit = rw c.trim-body.ensures (omega (arith, trimmed_size a.line.now, c.requires.fact_2)) in
    record { fact_1 = c.requires.fact_1; fact_2 = row_of_lem b c.in_ok-row.row c.in_ok-row.ensures.fact_1 c.in_ok-row.ensures.fact_2 size }

pub returns-in_err-row : goal.returns-in_err-row
returns-in_err-row c =
    let a = c.args in
    let b = c.trim-body.result.now in
    let p = err_from_is_err_and c.from_residual.result c.from_residual.ensures.1 in
    rw (p.1, p.2)
    (record { fact_1 = line_wrong (manner_of a.short) a.st _ a.line.now b c.trim-body.ensures [] _ (sym c.passed_over.ensures ∙ c.if-passed_over.false) (wrong_of b _ c.in_err-row.ensures.fact_1); fact_2 = tt })

pub returns : goal.returns
returns c = let a = c.args in
    let l = a.line.now in
    let b = c.trim-body.result.now in
    let row = c.in_ok-row.row in
    let fewer : length b ≤ length l = rw c.trim-body.ensures (trimmed_size l) in
    let of = row_of_lem b row c.in_ok-row.ensures.fact_1 c.in_ok-row.ensures.fact_2 (omega (arith, fewer, c.requires.fact_2)) in
    record { fact_1 = line_taken (manner_of a.short) a.st _ l b c.trim-body.ensures c.take_row.new.out (record_in b row) c.take_row.result (sym c.passed_over.ensures ∙ c.if-passed_over.false) of.reads c.take_row.ensures.fact_1; fact_2 = near_wider (a.st.at + 15 + length b) (a.st.at + 15 + length l) c.take_row.result (omega (arith, fewer)) c.take_row.ensures.fact_2 }
