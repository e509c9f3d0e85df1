use Rattle.event.specs.Outcome.{and_then}
use Rattle.midicsv.specs.Table.{range}
use Rattle.midicsv_record.specs.Column.{value_as}
use Rattle.midicsv_record.specs.InTurn.{field_after, fitting, record_in_turn, row_as, RowInside}
use Rattle.midicsv_record.proofs.RecordLaws.{column_told}
use Rattle.midicsv_record.proofs.InTurnLaws.{column_missing}
use Rattle.midicsv_scan.specs.FieldAt.{field_as, next_of}
use mathlib.Core.List.{◌∷◌}
use lib.ListN.{drop}
use mathlib.Core.Path.{refl}
use Rattle.std.specs.Prelude.{Some, None}
use Rattle.midicsv_record.proofs.record.row_in_turn.Goals as goal

pub returns-in_err-first : goal.returns-in_err-first
unfolding row_as RowInside record_in_turn and_then field_after field_as
returns-in_err-first c =
    let track = column_missing (range 0 65535) (44 ∷ c.args.line.now) c.in_err-first.ensures.fact_1 in
    rw c.from_residual.ensures (record { fact_1 = rw (← track) refl; fact_2 = tt })

pub returns-in_err-track : goal.returns-in_err-track
unfolding row_as RowInside record_in_turn and_then fitting field_after value_as
returns-in_err-track c =
    let l = c.args.line.now in
    let track = column_told (range 0 65535) l (44 ∷ l) _ None c.in_ok-first.ensures.fact_1 (c.in_err-track.ensures l) in
    rw c.from_residual-in_err-track.ensures (record { fact_1 = rw (← track) refl; fact_2 = tt })

pub returns-in_err-second : goal.returns-in_err-second
unfolding row_as RowInside record_in_turn and_then fitting field_after value_as field_as
returns-in_err-second c =
    let l = c.args.line.now in
    let track = column_told (range 0 65535) l (44 ∷ l) _ (Some c.in_ok-track.track) c.in_ok-first.ensures.fact_1 (c.in_ok-track.ensures l) in
    let time = column_missing (range 0 4294967295) (drop (next_of c.in_ok-first.first) l) (rw c.next.ensures at c.in_err-second.ensures.fact_1) in
    rw c.from_residual-in_err-second.ensures (record { fact_1 = rw (← track, ← time) refl; fact_2 = tt })

pub returns-in_err-time : goal.returns-in_err-time
unfolding row_as RowInside record_in_turn and_then fitting field_after value_as
returns-in_err-time c =
    let l = c.args.line.now in
    let track = column_told (range 0 65535) l (44 ∷ l) _ (Some c.in_ok-track.track) c.in_ok-first.ensures.fact_1 (c.in_ok-track.ensures l) in
    let time = column_told (range 0 4294967295) l (drop (next_of c.in_ok-first.first) l) _ None (rw c.next.ensures at c.in_ok-second.ensures.fact_1) (c.in_err-time.ensures l) in
    rw c.from_residual-in_err-time.ensures (record { fact_1 = rw (← track, ← time) refl; fact_2 = tt })

pub returns : goal.returns
unfolding row_as RowInside record_in_turn and_then fitting field_after value_as
returns c =
    let l = c.args.line.now in
    let track = column_told (range 0 65535) l (44 ∷ l) _ (Some c.in_ok-track.track) c.in_ok-first.ensures.fact_1 (c.in_ok-track.ensures l) in
    let time = column_told (range 0 4294967295) l (drop (next_of c.in_ok-first.first) l) _ (Some c.in_ok-time.time) (rw c.next.ensures at c.in_ok-second.ensures.fact_1) (c.in_ok-time.ensures l) in
    record { fact_1 = rw (← track, ← time) (rw c.next-2.ensures at c.row_after.ensures.fact_1); fact_2 = c.row_after.ensures.fact_2 }
