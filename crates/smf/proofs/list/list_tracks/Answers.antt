use lib.ListN.{length}
use Rattle.event.proofs.BytesLaws.{bytes_of}
use Rattle.smf.specs.Listing.{end_times, event_counts, paddings_in}
use Rattle.smf.proofs.VerdictLaws.{head_at}
use Rattle.smf.proofs.RefusalLaws.{judged_readable}
use Rattle.smf.proofs.AcceptedLaws.{file_accepted}
use Rattle.smf.proofs.ListLaws.{list_refused, refused_leaves, accepted_readable, short_answer_lem, short_leaves_lem, fine_answer, fine_leaves, fine_paddings, length_times, length_counts, room_yes, room_first, room_second, room_third}
use Rattle.smf.proofs.ListAnswerLaws.{told_by}
use native.Mathlib.Omega.{arith}
use Rattle.smf.specs.Answer.{success}
use Rattle.smf.specs.Step.{HeaderOf}
use Rattle.smf.specs.declared.Answer.{Answer}
use Rattle.smf.proofs.ToldLaws.{not_success}
use mathlib.Core.Path.{◌≡◌, refl, sym, ◌∙◌, ap}
use Rattle.smf.proofs.list.list_tracks.Goals as goal

pub returns-in-Err : goal.returns-in-Err
unfolding HeaderOf
returns-in-Err c = let a = c.args in
    let s = a.file.now in
    let n = length a.ends.now in
    let m = length a.counts.now in
    let o = length a.padding.now in
    let v = c.answer.result in
    let judged = c.answer.ensures ∙ c.in-Err.ensures.verdict in
    let bytes = bytes_of s (λ i. omega (arith, c.type_inv.file i)) in
    let no : (v.number ≡ 0 → ⊥) = λ z. not_success c.in-Err.refused (ap (λ (x : Answer). x.number) (sym c.answer.ensures) ∙ z) in
    let answer = list_refused n m o _ v judged no in
    let third = refused_leaves (paddings_in s) n m o _ v a.padding.now judged no in
    record { fact_1 = answer; fact_2 = refused_leaves end_times n m o _ v a.ends.now judged no; fact_3 = refused_leaves event_counts n m o _ v a.counts.now judged no; fact_4 = third; fact_5 = told_by s bytes n m o a.padding.now _ _ answer third }

pub returns-then-times-tracks : goal.returns-then-times-tracks
unfolding HeaderOf
returns-then-times-tracks c = let a = c.args in
    let s = a.file.now in
    let n = length a.ends.now in
    let m = length a.counts.now in
    let o = length a.padding.now in
    let v = success 0 in
    let judged = c.in-Ok.ensures.verdict in
    let bytes = bytes_of s (λ i. omega (arith, c.type_inv.file i)) in
    let came = sym c.in-Ok.ensures.header in
    let there = file_accepted s c.in-Ok.header.format c.in-Ok.header.count c.in-Ok.header.division c.in-Ok.header.next bytes came (judged_readable s v bytes judged refl) in
    let b = c.in-Ok.header.count in
    let at = c.in-Ok.header.next in
    let short = room_first n m o b c.if-times-tracks.true in
    let left = short_leaves_lem s b at there n m o short in
    let answer = c.room_needed.ensures ∙ short_answer_lem s b at there n m o short in
    let third = left (paddings_in s) a.padding.now in
    record { fact_1 = answer; fact_2 = left end_times a.ends.now; fact_3 = left event_counts a.counts.now; fact_4 = third; fact_5 = told_by s bytes n m o a.padding.now _ _ answer third }

pub returns-then-counts-tracks : goal.returns-then-counts-tracks
unfolding HeaderOf
returns-then-counts-tracks c = let a = c.args in
    let s = a.file.now in
    let n = length a.ends.now in
    let m = length a.counts.now in
    let o = length a.padding.now in
    let v = success 0 in
    let judged = c.in-Ok.ensures.verdict in
    let bytes = bytes_of s (λ i. omega (arith, c.type_inv.file i)) in
    let came = sym c.in-Ok.ensures.header in
    let there = file_accepted s c.in-Ok.header.format c.in-Ok.header.count c.in-Ok.header.division c.in-Ok.header.next bytes came (judged_readable s v bytes judged refl) in
    let b = c.in-Ok.header.count in
    let at = c.in-Ok.header.next in
    let short = room_second n m o b c.if-times-tracks.false c.if-counts-tracks.true in
    let left = short_leaves_lem s b at there n m o short in
    let answer = c.room_needed-then-counts-tracks.ensures ∙ short_answer_lem s b at there n m o short in
    let third = left (paddings_in s) a.padding.now in
    record { fact_1 = answer; fact_2 = left end_times a.ends.now; fact_3 = left event_counts a.counts.now; fact_4 = third; fact_5 = told_by s bytes n m o a.padding.now _ _ answer third }

pub returns-then-third-tracks : goal.returns-then-third-tracks
unfolding HeaderOf
returns-then-third-tracks c = let a = c.args in
    let s = a.file.now in
    let n = length a.ends.now in
    let m = length a.counts.now in
    let o = length a.padding.now in
    let v = success 0 in
    let judged = c.in-Ok.ensures.verdict in
    let bytes = bytes_of s (λ i. omega (arith, c.type_inv.file i)) in
    let came = sym c.in-Ok.ensures.header in
    let there = file_accepted s c.in-Ok.header.format c.in-Ok.header.count c.in-Ok.header.division c.in-Ok.header.next bytes came (judged_readable s v bytes judged refl) in
    let b = c.in-Ok.header.count in
    let at = c.in-Ok.header.next in
    let short = room_third n m o b c.if-times-tracks.false c.if-counts-tracks.false c.if-third-tracks.true in
    let left = short_leaves_lem s b at there n m o short in
    let answer = c.room_needed-then-third-tracks.ensures ∙ short_answer_lem s b at there n m o short in
    let third = left (paddings_in s) a.padding.now in
    record { fact_1 = answer; fact_2 = left end_times a.ends.now; fact_3 = left event_counts a.counts.now; fact_4 = third; fact_5 = told_by s bytes n m o a.padding.now _ _ answer third }

pub fill-requires : goal.fill-requires
unfolding HeaderOf
fill-requires c = let a = c.args in
    let s = a.file.now in
    let n = length a.ends.now in
    let m = length a.counts.now in
    let o = length a.padding.now in
    let v = success 0 in
    let judged = c.in-Ok.ensures.verdict in
    let bytes = bytes_of s (λ i. omega (arith, c.type_inv.file i)) in
    let came = sym c.in-Ok.ensures.header in
    let there = file_accepted s c.in-Ok.header.format c.in-Ok.header.count c.in-Ok.header.division c.in-Ok.header.next bytes came (judged_readable s v bytes judged refl) in
    let b = c.in-Ok.header.count in
    let at = c.in-Ok.header.next in
    let head = head_at s c.in-Ok.header.format c.in-Ok.header.count c.in-Ok.header.division c.in-Ok.header.next bytes came in
    record { fact_1 = head.inside; fact_2 = accepted_readable s b at there; fact_3 = c.if-times-tracks.false; fact_4 = c.if-counts-tracks.false; fact_5 = c.if-third-tracks.false }

pub returns : goal.returns
unfolding HeaderOf
returns c = let a = c.args in
    let s = a.file.now in
    let n = length a.ends.now in
    let m = length a.counts.now in
    let o = length a.padding.now in
    let v = success 0 in
    let judged = c.in-Ok.ensures.verdict in
    let bytes = bytes_of s (λ i. omega (arith, c.type_inv.file i)) in
    let came = sym c.in-Ok.ensures.header in
    let there = file_accepted s c.in-Ok.header.format c.in-Ok.header.count c.in-Ok.header.division c.in-Ok.header.next bytes came (judged_readable s v bytes judged refl) in
    let b = c.in-Ok.header.count in
    let at = c.in-Ok.header.next in
    let one = c.if-times-tracks.false in
    let two = c.if-counts-tracks.false in
    let three = c.if-third-tracks.false in
    let fits = room_yes n m o b one two three in
    let fine = fine_leaves s b at there n m o fits in
    let answer = c.success.ensures ∙ fine_answer s b at there n m o fits in
    let third = c.fill.ensures.fact_3 ∙ fine_paddings s b at there n m o fits c.in-Ok.header.format c.in-Ok.header.division a.padding.now bytes came three in
    record { fact_1 = answer; fact_2 = c.fill.ensures.fact_1 ∙ fine end_times a.ends.now length_times one; fact_3 = c.fill.ensures.fact_2 ∙ fine event_counts a.counts.now length_counts two; fact_4 = third; fact_5 = told_by s bytes n m o a.padding.now _ _ answer third }
