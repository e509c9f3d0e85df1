use Prim.Native.Nat.{◌-◌, ◌≤◌}
use mathlib.Core.List.{◌++◌}
use lib.ListN.{length, length-set, length-drop}
use Rattle.event.specs.Manner.{short}
use Rattle.event.specs.Step.{kind_from}
use Rattle.event.specs.declared.Delta.{Delta}
use Rattle.event.specs.declared.EventKind.TheVariants.{EndTrack}
use Rattle.event_write.specs.Head.{manner_of, head_bytes, data_of}
use Rattle.event_write.specs.Written.{Written}
use Rattle.event.proofs.BytesLaws.{bytes_of}
use Rattle.smf.specs.Code.Chain.{placed_from}
use Rattle.fold_piece.specs.FoldAnswer.{ends_shown, place_shown, time_shown, status_shown}
use Rattle.fold.proofs.RowLaws.{least_found, least_again}
use Rattle.fold.proofs.MergeLaws.{whole_small, going_first, not_stopped, taken_here, going_more, going_on}
use Rattle.fold.proofs.EndLaws.{written_all, places_shown, times_shown, statuses_shown}
use native.Mathlib.Omega.{arith}
use mathlib.Core.Path.{refl, subst, ◌∙◌, ap}
use borrow.Author.Rules.{rules}
use Rattle.fold.proofs.merge.merge.Goals as goal

pub start_rows-requires : goal.start_rows-requires
unfolding manner_of
start_rows-requires c = record { fact_1 = c.requires.fact_3; fact_2 = c.requires.fact_4.0; fact_3 = c.requires.fact_4.1; fact_4 = c.requires.fact_4.2 }

pub least-i-requires : goal.least-i-requires
unfolding manner_of
least-i-requires c = record { fact_1 = omega (arith, c.start_rows.auto.times, c.requires.fact_4.1); fact_2 = omega (arith, c.start_rows.auto.statuses, c.requires.fact_4.2) }

pub turn-init : goal.turn-init
unfolding manner_of
turn-init c = let a = c.args in let bytes = bytes_of a.file.now (λ k. omega (arith, c.type_inv.file k)) in (
  refl,
  refl,
  refl,
  refl,
  going_first a.file.now a.count a.first a.out.now a.from _ _ _ _ _ _ bytes c.requires.fact_3 (record { standing = c.start_rows.ensures.standing; places = refl; times = refl; statuses = refl }),
  least_found a.count _ _ _ c.least-i.ensures,
)

pub greatest_time-t-requires : goal.greatest_time-t-requires
unfolding manner_of
greatest_time-t-requires c = let l = c.turn in omega (arith, l.invariant.2, c.start_rows.auto.times, c.requires.fact_4.1)

pub step-requires : goal.step-requires
unfolding manner_of
step-requires c = search rules

pub put_event-end-requires : goal.put_event-end-requires
unfolding manner_of
put_event-end-requires c = let a = c.args in let g = c.turn.invariant.4 in
    let bytes = bytes_of a.file.now (λ k. omega (arith, c.type_inv.file k)) in
    record { fact_1 = omega (arith, g.remains.place, whole_small a.file.now a.count a.first bytes c.requires.fact_3, length-drop a.first a.file.now, c.requires.fact_1, c.requires.fact_2); fact_2 = omega (arith, c.requires.fact_2) }

pub clear-requires : goal.clear-requires
unfolding manner_of
clear-requires c = let l = c.turn in omega (arith, l.invariant.3, c.start_rows.auto.statuses, c.requires.fact_4.2)

pub returns-then-none_left : goal.returns-then-none_left
unfolding manner_of
returns-then-none_left c = let a = c.args in let l = c.turn in let f = a.file.now in let g = l.invariant.4 in
    let none = c.if-none_left.true in
    let best = l.invariant.5 in
    let ht : a.count ≤ length l.times = omega (arith, l.invariant.2, c.start_rows.auto.times, c.requires.fact_4.1) in
    let hp : a.count ≤ length l.places = omega (arith, l.invariant.1, c.start_rows.auto.places, c.requires.fact_4.0) in
    let delta = ap (λ (d : Delta). d.0) c.step.ensures ∙ ap (λ z. z - l.last.0) c.greatest_time-t.ensures in
    let w = subst (λ z. Written l.out l.next (head_bytes short l.force z EndTrack ++ data_of (kind_from f EndTrack)) c.put_event-end.new.out c.put_event-end.result) delta c.put_event-end.ensures in record { fact_1 = written_all g l.i none best ht c.put_event-end.new.out c.put_event-end.result w; fact_2 = places_shown g l.i none best hp ∙ ap (λ z. ends_shown place_shown (placed_from f a.count a.first) ++ z) c.start_rows.ensures.places; fact_3 = times_shown g l.i none best ht ∙ ap (λ z. ends_shown time_shown (placed_from f a.count a.first) ++ z) c.start_rows.ensures.times; fact_4 = c.clear.ensures ∙ statuses_shown g l.i none best ∙ ap (λ z. ends_shown status_shown (placed_from f a.count a.first) ++ z) c.start_rows.ensures.statuses }

pub offset_bounds-places-i : goal.offset_bounds-places-i
unfolding manner_of
offset_bounds-places-i c = search rules

pub bounds-places-i : goal.bounds-places-i
unfolding manner_of
bounds-places-i c = let l = c.turn in omega (arith, l.invariant.1, c.start_rows.auto.places, c.requires.fact_4.0, c.if-none_left.false)

pub offset_bounds-times-i : goal.offset_bounds-times-i
unfolding manner_of
offset_bounds-times-i c = search rules

pub bounds-times-i : goal.bounds-times-i
unfolding manner_of
bounds-times-i c = let l = c.turn in omega (arith, l.invariant.2, c.start_rows.auto.times, c.requires.fact_4.1, c.if-none_left.false)

pub bounds-statuses-i : goal.bounds-statuses-i
unfolding manner_of
bounds-statuses-i c = let l = c.turn in omega (arith, l.invariant.3, c.start_rows.auto.statuses, c.requires.fact_4.2, c.if-none_left.false)

pub returns-in_default : goal.returns-in_default
unfolding manner_of
returns-in_default c = let l = c.turn in
    let bytes = bytes_of c.args.file.now (λ k. omega (arith, c.type_inv.file k)) in
    absurd (not_stopped bytes l.invariant.4 l.i c.if-none_left.false l.invariant.5 c.in_default.ensures refl)

pub put_event-next-requires : goal.put_event-next-requires
unfolding manner_of
put_event-next-requires c = let a = c.args in let g = c.turn.invariant.4 in
    let bytes = bytes_of a.file.now (λ k. omega (arith, c.type_inv.file k)) in
    record { fact_1 = omega (arith, g.remains.place, whole_small a.file.now a.count a.first bytes c.requires.fact_3, length-drop a.first a.file.now, c.requires.fact_1, c.requires.fact_2); fact_2 = omega (arith, c.requires.fact_2) }

pub offset_bounds-places-i-in-turn : goal.offset_bounds-places-i-in-turn
unfolding manner_of
offset_bounds-places-i-in-turn c = omega (arith, c.requires.fact_4.0, c.if-none_left.false, c.well_formed.1.0.1)

pub bounds-places-i-in-turn : goal.bounds-places-i-in-turn
unfolding manner_of
bounds-places-i-in-turn c = let l = c.turn in omega (arith, l.invariant.1, c.start_rows.auto.places, c.requires.fact_4.0, c.if-none_left.false)

pub offset_bounds-times-i-in-turn : goal.offset_bounds-times-i-in-turn
unfolding manner_of
offset_bounds-times-i-in-turn c = omega (arith, c.requires.fact_4.1, c.if-none_left.false, c.well_formed.1.1.0.1)

pub bounds-times-i-in-turn : goal.bounds-times-i-in-turn
unfolding manner_of
bounds-times-i-in-turn c = let l = c.turn in omega (arith, l.invariant.2, c.start_rows.auto.times, c.requires.fact_4.1, c.if-none_left.false)

pub bounds-statuses-i-in-turn : goal.bounds-statuses-i-in-turn
unfolding manner_of
bounds-statuses-i-in-turn c = let l = c.turn in omega (arith, l.invariant.3, c.start_rows.auto.statuses, c.requires.fact_4.2, c.if-none_left.false)

pub least_after-i-requires : goal.least_after-i-requires
unfolding manner_of
least_after-i-requires c = let l = c.turn in let r = c.row_at-row.result in
    record { fact_1 = omega (arith, length-set l.times l.i r.time, l.invariant.2, c.start_rows.auto.times, c.requires.fact_4.1); fact_2 = omega (arith, length-set l.statuses l.i r.status, l.invariant.3, c.start_rows.auto.statuses, c.requires.fact_4.2); fact_3 = c.if-none_left.false }

pub turn-smaller : goal.turn-smaller
unfolding manner_of
turn-smaller c = let l = c.turn in let h = c.if-none_left.false in let bytes = bytes_of c.args.file.now (λ k. omega (arith, c.type_inv.file k)) in
    let w = taken_here bytes l.invariant.4 l.i h l.invariant.5 c.in-Ok.ensures refl in
    omega (arith, going_more bytes l.invariant.4 l.i h l.invariant.5 c.in-Ok.read.kind c.in-Ok.read.next.place c.in-Ok.read.next.status w _ c.put_event-next.new.out c.put_event-next.result (ap (λ (x : Delta). x.0) c.step-in-turn.ensures) c.put_event-next.ensures)

pub turn-preserved : goal.turn-preserved
unfolding manner_of
turn-preserved c = let l = c.turn in let h = c.if-none_left.false in let r = c.row_at-row.result in
    let k = c.start_rows.auto in
    let bytes = bytes_of c.args.file.now (λ k. omega (arith, c.type_inv.file k)) in
    let w = taken_here bytes l.invariant.4 l.i h l.invariant.5 c.in-Ok.ensures refl in
    let hp : c.args.count ≤ length l.places = omega (arith, l.invariant.1, c.start_rows.auto.places, c.requires.fact_4.0) in
    let ht : c.args.count ≤ length l.times = omega (arith, l.invariant.2, c.start_rows.auto.times, c.requires.fact_4.1) in
    let hs : c.args.count ≤ length l.statuses = omega (arith, l.invariant.3, c.start_rows.auto.statuses, c.requires.fact_4.2) in (
      c.put_event-next.auto.out ∙ l.invariant.0,
      length-set l.places l.i r.place ∙ l.invariant.1,
      length-set l.times l.i r.time ∙ l.invariant.2,
      length-set l.statuses l.i r.status ∙ l.invariant.3,
      going_on bytes l.invariant.4 l.i h l.invariant.5 c.in-Ok.read.kind c.in-Ok.read.next.place c.in-Ok.read.next.status w r hp ht hs c.row_at-row.ensures _ c.put_event-next.new.out c.put_event-next.result (ap (λ (x : Delta). x.0) c.step-in-turn.ensures) c.put_event-next.ensures,
      least_again c.args.count l.times l.statuses l.i r.time r.status _ _ h ht hs refl l.invariant.5 c.least_after-i.ensures,
    )
