use mathlib.Core.List.{[]}
use Rattle.event_write.specs.Head.{manner_of}
use Rattle.midicsv_record.specs.Row.{record_in}
use Rattle.event.proofs.DatesLaws.{since_before, since_after}
use Rattle.midicsv_read.proofs.TakeEventLaws.{event_phase, event_track, event_falls, event_far}
use mathlib.Core.Path.{sym, ◌∙◌}
use Rattle.midicsv_read.proofs.PhaseLaws.{not_same, not_other}
use Rattle.midicsv_read.proofs.order.take_event.Goals as goal

pub returns-then-ne : goal.returns-then-ne
returns-then-ne c = let a = c.args in
    let row = record_in a.line.now a.row in
    record { fact_1 = event_phase (manner_of a.short) a.st _ row.track row.time row.values row.name [] c.requires.fact_3 (not_same a.st.phase _ c.if-ne.ensures); fact_2 = tt }

pub returns-then-row-st : goal.returns-then-row-st
returns-then-row-st c = let a = c.args in
    let row = record_in a.line.now a.row in
    record { fact_1 = event_track (manner_of a.short) a.st _ row.track row.time row.values row.name [] c.requires.fact_3 c.if-row-st.true; fact_2 = tt }

pub returns-then-d-gt-MOST_DELTA : goal.returns-then-d-gt-MOST_DELTA
returns-then-d-gt-MOST_DELTA c = let a = c.args in
    let row = record_in a.line.now a.row in
    let s = since_after a.row.time a.st.time.0 c.in-Some.delta (sym c.in-Some.ensures) in
    record { fact_1 = event_far (manner_of a.short) a.st _ row.track row.time row.values row.name [] _ c.requires.fact_3 (not_other a.st.phase _ c.if-ne.ensures) c.if-row-st.false s.0 s.1 c.if-d-gt-MOST_DELTA.true; fact_2 = tt }

pub put_event-requires : goal.put_event-requires
put_event-requires c = let a = c.args in
    let s = since_after a.row.time a.st.time.0 c.in-Some.delta (sym c.in-Some.ensures) in
    record { fact_1 = c.requires.fact_1; fact_2 = c.requires.fact_2; fact_3 = c.requires.fact_3; fact_4 = record { phase = (not_other a.st.phase _ c.if-ne.ensures); track = c.if-row-st.false; later = s.0; delta = s.1; near = c.if-d-gt-MOST_DELTA.false } }

pub returns-in_default : goal.returns-in_default
returns-in_default c = let a = c.args in
    let row = record_in a.line.now a.row in
    let falls = since_before a.row.time a.st.time.0 (sym c.in_default.ensures) in
    record { fact_1 = event_falls (manner_of a.short) a.st _ row.track row.time row.values row.name [] c.requires.fact_3 c.if-row-st.false falls; fact_2 = tt }
