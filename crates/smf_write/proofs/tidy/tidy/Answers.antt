use Rattle.smf.specs.Answer.{success}
use Rattle.smf.specs.Step.{HeaderOf}
use Rattle.smf.specs.declared.Answer.{Answer}
use Rattle.smf.proofs.ToldLaws.{not_success}
use lib.ListN.{length}
use Rattle.event.proofs.BytesLaws.{bytes_of}
use Rattle.event_write.specs.Head.{manner_of}
use Rattle.event_write.proofs.WriteLaws.{after_measure, unmeasured, measured}
use Rattle.smf.proofs.AcceptedLaws.{accepted_file, file_readable}
use Rattle.smf_write.proofs.FileLaws.{tidy_refused, tidied, write_long, write_room, write_fine}
use native.Mathlib.Omega.{arith}
use mathlib.Core.Path.{◌∙◌, ap, refl, sym}
use Rattle.smf_write.proofs.tidy.tidy.Goals as goal

pub returns-in-Err : goal.returns-in-Err
returns-in-Err c = let s = c.args.file.now in
    let old = c.args.out.now in
    let v = c.answer.result in
    let judged = c.answer.ensures ∙ c.in-Err.ensures.verdict in
    let bytes = bytes_of s (λ i. omega (arith, c.type_inv.file i)) in
    let h = tidy_refused _ v old judged (λ z. not_success c.in-Err.refused (ap (λ (x : Answer). x.number) (sym c.answer.ensures) ∙ z)) in record { fact_1 = h.0; fact_2 = h.1 }

pub put_file-need-requires : goal.put_file-need-requires
unfolding HeaderOf
put_file-need-requires c = let s = c.args.file.now in
    let old = c.args.out.now in
    let v = success 0 in
    let judged = c.in-Ok.ensures.verdict in
    let bytes = bytes_of s (λ i. omega (arith, c.type_inv.file i)) in
    let there = accepted_file s v bytes judged refl in
    record { small = there.short; readable = file_readable s there; header = c.in-Ok.ensures.header }

pub returns-then-need-gt-FILE_LIMIT : goal.returns-then-need-gt-FILE_LIMIT
unfolding manner_of
returns-then-need-gt-FILE_LIMIT c = let s = c.args.file.now in
    let old = c.args.out.now in
    let v = success 0 in
    let judged = c.in-Ok.ensures.verdict in
    let bytes = bytes_of s (λ i. omega (arith, c.type_inv.file i)) in
    let there = accepted_file s v bytes judged refl in
    let m = c.put_file-need.ensures in
    let n = c.put_file-need.result in
    let size = measured m in
    let kept = ap length (unmeasured old m) in
    let long = tidied s there old (write_long _ old n size c.if-need-gt-FILE_LIMIT.true) in
    record { fact_1 = c.refuse.ensures ∙ long.0; fact_2 = unmeasured old m ∙ long.1 }

pub returns-then-too_small : goal.returns-then-too_small
unfolding manner_of
returns-then-too_small c = let s = c.args.file.now in
    let old = c.args.out.now in
    let v = success 0 in
    let judged = c.in-Ok.ensures.verdict in
    let bytes = bytes_of s (λ i. omega (arith, c.type_inv.file i)) in
    let there = accepted_file s v bytes judged refl in
    let m = c.put_file-need.ensures in
    let n = c.put_file-need.result in
    let size = measured m in
    let kept = ap length (unmeasured old m) in
    let room = tidied s there old (write_room _ old n size c.if-need-gt-FILE_LIMIT.false (omega (arith, kept, c.if-too_small.true))) in
    record { fact_1 = c.room_needed.ensures ∙ room.0; fact_2 = unmeasured old m ∙ room.1 }

pub put_file-requires : goal.put_file-requires
unfolding HeaderOf
put_file-requires c = let s = c.args.file.now in
    let old = c.args.out.now in
    let v = success 0 in
    let judged = c.in-Ok.ensures.verdict in
    let bytes = bytes_of s (λ i. omega (arith, c.type_inv.file i)) in
    let there = accepted_file s v bytes judged refl in
    record { small = there.short; readable = file_readable s there; header = c.in-Ok.ensures.header }

pub returns : goal.returns
unfolding manner_of
returns c = let s = c.args.file.now in
    let old = c.args.out.now in
    let v = success 0 in
    let judged = c.in-Ok.ensures.verdict in
    let bytes = bytes_of s (λ i. omega (arith, c.type_inv.file i)) in
    let there = accepted_file s v bytes judged refl in
    let m = c.put_file-need.ensures in
    let n = c.put_file-need.result in
    let size = measured m in
    let kept = ap length (unmeasured old m) in
    let fine = tidied s there old (write_fine _ old n size c.if-need-gt-FILE_LIMIT.false (omega (arith, kept, c.if-too_small.false))) in
    record { fact_1 = c.success.ensures ∙ fine.0; fact_2 = (after_measure m c.put_file.ensures).contents ∙ fine.1 }
