use mathlib.Core.List.{[]}
use Rattle.event.specs.Refusal.{number_of}
use Rattle.event.specs.Outcome.{value_or}
use Prim.Native.Nat.{suc, ◌+◌, ◌-◌}
use lib.ListN.{drop, length-set}
use lib.Seq.{sets}
use Rattle.event.proofs.BytesLaws.{bytes_of}
use Rattle.smf.specs.Listing.{end_times, event_counts}
use Rattle.smf.proofs.ListLaws.{R, list_bad, list_next, list_none, no_paddings, sets_step}
use Rattle.smf.specs.Padding.{tracks_padding}
use native.Mathlib.Omega.{arith}
use mathlib.Core.Path.{◌≡◌, refl, sym, ◌∙◌, ap}
use Rattle.smf.proofs.list.fill.Goals as goal

pub loop-i-init : goal.loop-i-init
loop-i-init c = let a = c.args in
    let e : a.count - 0 ≡ a.count = omega arith in
    (c.requires.fact_1, omega arith, refl, refl, rw e c.requires.fact_2, rw e refl, rw e refl, refl, rw e refl)

pub returns-in_default : goal.returns-in_default
returns-in_default c =
    let l = c.loop-i in
    let e = c.in_default.field-0 in
    absurd (list_bad c.args.file.now (c.args.count - l.i) l.at (number_of e.why) e.place (omega (arith, c.loop-i-test.true)) (sym c.in_default.ensures) l.invariant.4)

pub bounds-ends-i : goal.bounds-ends-i
bounds-ends-i c = omega (arith, c.loop-i.invariant.2, c.requires.fact_3, c.loop-i-test.true)

pub bounds-counts-i : goal.bounds-counts-i
bounds-counts-i c = omega (arith, c.loop-i.invariant.3, c.requires.fact_4, c.loop-i-test.true)

pub bounds-padding-i : goal.bounds-padding-i
bounds-padding-i c = omega (arith, c.loop-i.invariant.7, c.requires.fact_5, c.loop-i-test.true)

pub loop-i-preserved : goal.loop-i-preserved
loop-i-preserved c = let a = c.args in
    let l = c.loop-i in
    let bytes = bytes_of a.file.now (λ k. omega (arith, c.type_inv.file k)) in
    let down : a.count - l.i ≡ suc (a.count - (l.i + 1)) = omega (arith, c.loop-i-test.true) in
    let one = list_next a.file.now (a.count - l.i) (a.count - (l.i + 1)) l.at c.in-Ok.track.time c.in-Ok.track.events c.in-Ok.track.next down bytes l.invariant.0 (sym c.in-Ok.ensures) l.invariant.4 in (
      one.inside,
      omega (arith, c.loop-i-test.true),
      length-set l.ends l.i c.in-Ok.track.time.0 ∙ l.invariant.2,
      length-set l.counts l.i c.in-Ok.track.events ∙ l.invariant.3,
      one.readable,
      sets_step l.ends l.i c.in-Ok.track.time.0 (end_times (value_or [] (R a.file.now (a.count - (l.i + 1)) c.in-Ok.track.next))) ∙ ap (sets l.ends l.i) (sym one.times) ∙ l.invariant.5,
      sets_step l.counts l.i c.in-Ok.track.events (event_counts (value_or [] (R a.file.now (a.count - (l.i + 1)) c.in-Ok.track.next))) ∙ ap (sets l.counts l.i) (sym one.counts) ∙ l.invariant.6,
      length-set l.padding l.i c.in-Ok.track.padding ∙ l.invariant.7,
      sets_step l.padding l.i c.in-Ok.track.padding (tracks_padding (a.count - (l.i + 1)) c.in-Ok.track.next (drop c.in-Ok.track.next a.file.now)) ∙ ap (sets l.padding l.i) (sym one.paddings) ∙ l.invariant.8,
    )

pub returns : goal.returns
unfolding end_times event_counts
returns c = let a = c.args in
    let l = c.loop-i in
    let none = c.loop-i-test.false in
    record { fact_1 = sym (list_none end_times a.file.now (a.count - l.i) l.at l.ends l.i refl (omega (arith, none))) ∙ l.invariant.5; fact_2 = sym (list_none event_counts a.file.now (a.count - l.i) l.at l.counts l.i refl (omega (arith, none))) ∙ l.invariant.6; fact_3 = sym (no_paddings a.file.now (a.count - l.i) l.at l.padding l.i (omega (arith, none))) ∙ l.invariant.8 }
