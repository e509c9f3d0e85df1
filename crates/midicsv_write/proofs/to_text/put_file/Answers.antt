use Rattle.smf.specs.Answer.{success}
use Rattle.smf.specs.Step.{HeaderOf}
use Rattle.smf.specs.declared.Answer.{Answer}
use Rattle.smf.proofs.ToldLaws.{not_success}
use Prim.Native.Nat.{◌≤◌}
use lib.ListN.{length}
use Rattle.event.proofs.BytesLaws.{bytes_of}
use Rattle.event_write.proofs.WriteLaws.{after_measure, unmeasured, measured}
use Rattle.smf.specs.PieceRead.{piece_read}
use Rattle.smf.proofs.AcceptedLaws.{accepted_file, file_readable}
use Rattle.midicsv.specs.Code.Form.{form_of}
use Rattle.midicsv.specs.Text.{written_as}
use Rattle.midicsv_write.proofs.AnswerLaws.{text_refused, text_fits, room_answer, fine_answer, fine_leaves}
use native.Mathlib.Omega.{arith}
use mathlib.Core.Path.{◌≡◌, ◌∙◌, ap, refl, sym}
use Rattle.midicsv_write.proofs.to_text.put_file.Goals as goal

pub returns-in-Err : goal.returns-in-Err
returns-in-Err c =
    let judged = c.answer.ensures ∙ c.in-Err.ensures.verdict in
    let h = text_refused (form_of c.args.sheet) _ c.answer.result c.args.out.now judged (λ z. not_success c.in-Err.refused (ap (λ (x : Answer). x.number) (sym c.answer.ensures) ∙ z)) in
    record { fact_1 = h.0; fact_2 = h.1 }

pub most_for-requires : goal.most_for-requires
most_for-requires c =
    let s = c.args.file.now in
    let bytes = bytes_of s (λ i. omega (arith, c.type_inv.file i)) in
    (accepted_file s (success 0) bytes c.in-Ok.ensures.verdict refl).short

pub put_text-written-requires : goal.put_text-written-requires
unfolding HeaderOf
put_text-written-requires c =
    let s = c.args.file.now in
    let bytes = bytes_of s (λ i. omega (arith, c.type_inv.file i)) in
    let there = accepted_file s (success 0) bytes c.in-Ok.ensures.verdict refl in
    record { small = there.short; readable = file_readable s there; header = c.in-Ok.ensures.header }

pub returns-then-most_for-out : goal.returns-then-most_for-out
returns-then-most_for-out c =
    let s = c.args.file.now in
    let old = c.args.out.now in
    let w = form_of c.args.sheet in
    let bytes = bytes_of s (λ i. omega (arith, c.type_inv.file i)) in
    let there = accepted_file s (success 0) bytes c.in-Ok.ensures.verdict refl in
    let n = c.put_text-written.result in
    let size : n ≡ length (written_as w (piece_read s)) = omega (arith, c.put_text-written.ensures.place) in
    let fits : n ≤ length old = omega (arith, size, text_fits w s there bytes, c.most_for.ensures, c.if-most_for-out.true) in
    record { fact_1 = c.success.ensures ∙ fine_answer w s there old n size fits; fact_2 = c.put_text-written.ensures.contents ∙ fine_leaves w s there old n size fits }

pub put_text-need-requires : goal.put_text-need-requires
unfolding HeaderOf
put_text-need-requires c =
    let s = c.args.file.now in
    let bytes = bytes_of s (λ i. omega (arith, c.type_inv.file i)) in
    let there = accepted_file s (success 0) bytes c.in-Ok.ensures.verdict refl in
    record { small = there.short; readable = file_readable s there; header = c.in-Ok.ensures.header }

pub returns-then-out-need : goal.returns-then-out-need
returns-then-out-need c =
    let s = c.args.file.now in
    let old = c.args.out.now in
    let w = form_of c.args.sheet in
    let bytes = bytes_of s (λ i. omega (arith, c.type_inv.file i)) in
    let there = accepted_file s (success 0) bytes c.in-Ok.ensures.verdict refl in
    let m = c.put_text-need.ensures in
    let n = c.put_text-need.result in
    let kept = ap length (unmeasured old m) in
    let room = room_answer w s there old n (measured m) (omega (arith, kept, c.if-out-need.true)) in
    record { fact_1 = c.room_needed.ensures ∙ room.0; fact_2 = unmeasured old m ∙ room.1 }

pub put_text-requires : goal.put_text-requires
unfolding HeaderOf
put_text-requires c =
    let s = c.args.file.now in
    let bytes = bytes_of s (λ i. omega (arith, c.type_inv.file i)) in
    let there = accepted_file s (success 0) bytes c.in-Ok.ensures.verdict refl in
    record { small = there.short; readable = file_readable s there; header = c.in-Ok.ensures.header }

pub returns : goal.returns
returns c =
    let s = c.args.file.now in
    let old = c.args.out.now in
    let w = form_of c.args.sheet in
    let bytes = bytes_of s (λ i. omega (arith, c.type_inv.file i)) in
    let there = accepted_file s (success 0) bytes c.in-Ok.ensures.verdict refl in
    let m = c.put_text-need.ensures in
    let n = c.put_text-need.result in
    let kept = ap length (unmeasured old m) in
    let fits : n ≤ length old = omega (arith, kept, c.if-out-need.false) in
    record { fact_1 = c.success-2.ensures ∙ fine_answer w s there old n (measured m) fits; fact_2 = (after_measure m c.put_text.ensures).contents ∙ fine_leaves w s there old n (measured m) fits }
