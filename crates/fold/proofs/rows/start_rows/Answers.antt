use Rattle.event.specs.Refusal.{number_of}
use Prim.Native.Nat.{◌-◌}
use lib.ListN.{length-set}
use Rattle.event.proofs.BytesLaws.{bytes_of}
use Rattle.smf.proofs.TurnLaws.{tracks_stop}
use Rattle.fold.proofs.StartLaws.{starting, start_more, started}
use native.Mathlib.Omega.{arith}
use mathlib.Core.Path.{refl, sym, ◌∙◌}
use Rattle.fold.proofs.rows.start_rows.Goals as goal

pub loop-i-init : goal.loop-i-init
loop-i-init c = (omega arith, refl, refl, refl, starting _ _ _ _ _ _ c.requires.fact_1)

pub returns-in_default : goal.returns-in_default
returns-in_default c = let a = c.args in let l = c.loop-i in absurd (tracks_stop a.file.now (a.count - l.i) l.at (number_of c.in_default.field-0.why) c.in_default.field-0.place (omega (arith, c.loop-i-test.true)) (sym c.in_default.ensures) l.invariant.4.readable)

pub bounds-places-i : goal.bounds-places-i
bounds-places-i c = omega (arith, c.loop-i.invariant.1, c.requires.fact_2, c.loop-i-test.true)

pub bounds-times-i : goal.bounds-times-i
bounds-times-i c = omega (arith, c.loop-i.invariant.2, c.requires.fact_3, c.loop-i-test.true)

pub bounds-statuses-i : goal.bounds-statuses-i
bounds-statuses-i c = omega (arith, c.loop-i.invariant.3, c.requires.fact_4, c.loop-i-test.true)

pub loop-i-preserved : goal.loop-i-preserved
loop-i-preserved c = let a = c.args in let l = c.loop-i in let r = c.row_at-row.result in
    let bytes = bytes_of a.file.now (λ k. omega (arith, c.type_inv.file k)) in (
      omega (arith, c.loop-i-test.true),
      length-set l.places l.i r.place ∙ l.invariant.1,
      length-set l.times l.i r.time ∙ l.invariant.2,
      length-set l.statuses l.i r.status ∙ l.invariant.3,
      start_more a.file.now a.count a.first l.at l.i c.in-Ok.chunk.start c.in-Ok.chunk.end l.places l.times l.statuses _ _ _ r bytes c.loop-i-test.true (omega (arith, l.invariant.1, c.requires.fact_2)) (omega (arith, l.invariant.2, c.requires.fact_3)) (omega (arith, l.invariant.3, c.requires.fact_4)) (sym c.in-Ok.ensures) (rw c.start.ensures at c.row_at-row.ensures) l.invariant.4,
    )

pub returns : goal.returns
returns c = let a = c.args in let l = c.loop-i in started _ _ _ l.at l.i _ _ _ _ _ _ c.loop-i-test.false l.invariant.4
