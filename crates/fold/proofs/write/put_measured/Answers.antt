use Rattle.fold_piece.specs.FoldAnswer.{ends_shown, place_shown, status_shown, time_shown}
use lib.ListN.{length}
use Rattle.event_write.proofs.WriteLaws.{after_measure, unmeasured, measured}
use Rattle.smf_write.proofs.FileLaws.{write_long, write_room, write_fine}
use Rattle.fold.proofs.TopLaws.{twice}
use native.Mathlib.Omega.{arith}
use mathlib.Core.Path.{◌∙◌, ap}
use Rattle.smf.specs.Code.Chain.{placed_from}
use Rattle.fold.proofs.write.put_measured.Goals as goal

pub returns-then-need-gt-FILE_LIMIT : goal.returns-then-need-gt-FILE_LIMIT
returns-then-need-gt-FILE_LIMIT c = let a = c.args in let w = write_long _ a.out.now _ (measured c.put_file-need.ensures.fact_1) c.if-need-gt-FILE_LIMIT.true in
    record { fact_1 = c.refuse.ensures ∙ w.0; fact_2 = unmeasured a.out.now c.put_file-need.ensures.fact_1 ∙ w.1; fact_3 = c.put_file-need.ensures.fact_2; fact_4 = c.put_file-need.ensures.fact_3; fact_5 = c.put_file-need.ensures.fact_4 }

pub returns-then-out-need : goal.returns-then-out-need
returns-then-out-need c = let a = c.args in let kept = ap length (unmeasured a.out.now c.put_file-need.ensures.fact_1) in
    let w = write_room _ a.out.now _ (measured c.put_file-need.ensures.fact_1) c.if-need-gt-FILE_LIMIT.false (omega (arith, kept, c.if-out-need.true)) in
    record { fact_1 = c.room_needed.ensures ∙ w.0; fact_2 = unmeasured a.out.now c.put_file-need.ensures.fact_1 ∙ w.1; fact_3 = c.put_file-need.ensures.fact_2; fact_4 = c.put_file-need.ensures.fact_3; fact_5 = c.put_file-need.ensures.fact_4 }

pub put_file-requires : goal.put_file-requires
put_file-requires c = record { fact_1 = c.requires.fact_1; fact_2 = c.requires.fact_2; fact_3 = c.requires.fact_3; fact_4 = (omega (arith, c.put_file-need.auto.places, c.requires.fact_4.0), omega (arith, c.put_file-need.auto.times, c.requires.fact_4.1), omega (arith, c.put_file-need.auto.statuses, c.requires.fact_4.2)) }

pub returns : goal.returns
returns c = let a = c.args in let kept = ap length (unmeasured a.out.now c.put_file-need.ensures.fact_1) in
    let w = write_fine _ a.out.now _ (measured c.put_file-need.ensures.fact_1) c.if-need-gt-FILE_LIMIT.false (omega (arith, kept, c.if-out-need.false)) in
    record { fact_1 = c.success.ensures ∙ w.0; fact_2 = (after_measure c.put_file-need.ensures.fact_1 c.put_file.ensures.fact_1).contents ∙ w.1; fact_3 = twice (ends_shown place_shown (placed_from a.file.now a.count a.first)) a.places.now c.put_file-need.new.places _ a.count c.put_file-need.ensures.fact_2 c.put_file-need.auto.places c.requires.fact_4.0 c.put_file.ensures.fact_2; fact_4 = twice (ends_shown time_shown (placed_from a.file.now a.count a.first)) a.times.now c.put_file-need.new.times _ a.count c.put_file-need.ensures.fact_3 c.put_file-need.auto.times c.requires.fact_4.1 c.put_file.ensures.fact_3; fact_5 = twice (ends_shown status_shown (placed_from a.file.now a.count a.first)) a.statuses.now c.put_file-need.new.statuses _ a.count c.put_file-need.ensures.fact_4 c.put_file-need.auto.statuses c.requires.fact_4.2 c.put_file.ensures.fact_4 }
