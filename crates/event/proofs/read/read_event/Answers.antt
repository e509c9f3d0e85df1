use mathlib.Core.Path.{sym, ◌∙◌}
use lib.ListN.{length}
use native.Mathlib.Omega.{arith}
use Rattle.event.specs.Refusal.{number_of}
use Rattle.event.proofs.BytesLaws.{bytes_of, bytes_drop}
use Rattle.event.proofs.PaddingLaws.{frame_padding_lem, sum_small}
use Rattle.event.proofs.PassedLaws.{passed}
use Rattle.event.proofs.PlaceLaws.{number_came, number_told, number_bad}
use Rattle.event.proofs.StepLaws.{event_bad, event_over, event_refused, event_found}
use Rattle.event.proofs.read.read_event.Goals as goal

pub returns-in_err-delta : goal.returns-in_err-delta
returns-in_err-delta c =
    let a = c.args in
    let e = c.in_err-delta.field-0.0 in
    let (z, q) = number_bad _ (length a.body.now) (number_of e) _ (sym c.in_err-delta.ensures) in
    passed c.from_residual.result e c.from_residual.ensures.1 ∙ event_bad a.body.now a.cursor.time.0 a.cursor.status a.cursor.place (number_of e) z q

pub returns-in_default : goal.returns-in_default
returns-in_default c =
    let a = c.args in
    let r = c.in_ok-delta.delta in
    let (q, h) = number_came _ a.body.now a.cursor.place r (sym c.in_ok-delta.ensures) in
    event_over a.body.now a.cursor.time.0 a.cursor.status a.cursor.place r.value r.next q (sym c.in_default.ensures)

pub returns-in_err-frame : goal.returns-in_err-frame
returns-in_err-frame c =
    let a = c.args in
    let r = c.in_ok-delta.delta in
    let e = c.in_err-frame.field-0.0 in
    let (q, h) = number_came _ a.body.now a.cursor.place r (sym c.in_ok-delta.ensures) in
    passed c.from_residual-in_err-frame.result e c.from_residual-in_err-frame.ensures.1
    ∙ event_refused a.body.now a.cursor.time.0 a.cursor.status a.cursor.place r.value r.next q c.in-Some.time (number_of e) (sym c.in-Some.ensures) (sym c.in_err-frame.ensures)

pub overflow_add-padding : goal.overflow_add-padding
overflow_add-padding c =
    let a = c.args in
    let s = a.body.now in
    let r = c.in_ok-delta.delta in
    let f = c.in_ok-frame.frame in
    let bytes = bytes_of s (λ i. omega (arith, c.type_inv.body i)) in
    let told = number_told _ (length s) _ (sym c.in_ok-delta.ensures) in
    omega (arith, sum_small r.padding f.padding _ _ (bytes_drop s a.cursor.place bytes) (bytes_drop s r.next bytes) told (frame_padding_lem _ _ (sym c.in_ok-frame.ensures)))

pub returns : goal.returns
returns c =
    let a = c.args in
    let r = c.in_ok-delta.delta in
    let bytes = bytes_of a.body.now (λ i. omega (arith, c.type_inv.body i)) in
    let came = sym c.in_ok-delta.ensures in
    let (q, h) = number_came _ a.body.now a.cursor.place r came in
    event_found a.body.now a.cursor.time.0 a.cursor.status a.cursor.place r.value r.next q c.in-Some.time c.in_ok-frame.frame r.padding (number_told _ (length a.body.now) _ came)
    (bytes_drop a.body.now r.next bytes) (sym c.in-Some.ensures) (sym c.in_ok-frame.ensures)
