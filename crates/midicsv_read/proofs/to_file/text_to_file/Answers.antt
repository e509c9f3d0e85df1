use Rattle.midicsv_read.proofs.ToFileLaws.{wrong_manner, long_text_lem, refused_text, long_file, small_room, written_file, no_room}
use mathlib.Core.Path.{◌∙◌}
use Rattle.midicsv_read.specs.Progress.{passed_as}
use Rattle.midicsv_read.proofs.to_file.text_to_file.Goals as goal

pub returns-then-manner-gt1 : goal.returns-then-manner-gt1
unfolding passed_as
returns-then-manner-gt1 c = let a = c.args in
    let w = wrong_manner a.text.now a.manner a.out.now c.if-manner-gt1.true in
    record { fact_1 = c.refuse.ensures ∙ w.0; fact_2 = w.1 }

pub returns-then-text-gt-TEXT_LIMIT : goal.returns-then-text-gt-TEXT_LIMIT
unfolding passed_as
returns-then-text-gt-TEXT_LIMIT c = let a = c.args in
    let w = long_text_lem a.text.now a.manner a.out.now c.if-manner-gt1.false c.if-text-gt-TEXT_LIMIT.true in
    record { fact_1 = c.refuse-then-text-gt-TEXT_LIMIT.ensures ∙ w.0; fact_2 = w.1 }

pub returns-then-need-gt-FILE_LIMIT : goal.returns-then-need-gt-FILE_LIMIT
unfolding passed_as
returns-then-need-gt-FILE_LIMIT c = let a = c.args in
    let none = no_room c.pass.new.out c.pass.auto.out in
    let w = long_file a.text.now a.manner a.out.now c.if-manner-gt1.false c.if-text-gt-TEXT_LIMIT.false _ c.in-Ok.ensures.fact_1 c.if-need-gt-FILE_LIMIT.true in
    record { fact_1 = c.refuse-then-need-gt-FILE_LIMIT.ensures ∙ w.0; fact_2 = rw none w.1 }

pub returns-then-out-need : goal.returns-then-out-need
unfolding passed_as
returns-then-out-need c = let a = c.args in
    let none = no_room c.pass.new.out c.pass.auto.out in
    let w = small_room a.text.now a.manner a.out.now c.if-manner-gt1.false c.if-text-gt-TEXT_LIMIT.false _ c.in-Ok.ensures.fact_1 c.if-need-gt-FILE_LIMIT.false (rw none at c.if-out-need.true) in
    record { fact_1 = c.room_needed.ensures ∙ w.0; fact_2 = rw none w.1 }

pub returns-in-Err : goal.returns-in-Err
unfolding passed_as
returns-in-Err c = let a = c.args in
    let none = no_room c.pass.new.out c.pass.auto.out in
    let w = refused_text a.text.now a.manner a.out.now c.if-manner-gt1.false c.if-text-gt-TEXT_LIMIT.false _ _ c.in-Err.ensures.fact_1 in
    record { fact_1 = c.refuse-in-Err.ensures ∙ w.0; fact_2 = rw none w.1 }

pub returns-else-out-need : goal.returns-else-out-need
unfolding passed_as
returns-else-out-need c = let a = c.args in
    let none = no_room c.pass.new.out c.pass.auto.out in
    let w = written_file a.text.now a.manner a.out.now c.if-manner-gt1.false c.if-text-gt-TEXT_LIMIT.false _ c.in-Ok.ensures.fact_1 _ c.if-need-gt-FILE_LIMIT.false (rw none at c.if-out-need.false) (rw none at c.pass-in-Ok.ensures.fact_2) in
    record { fact_1 = c.success.ensures ∙ w.0; fact_2 = w.1 }
