use Rattle.midicsv.proofs.BoundLaws.{most_few}
use Rattle.midicsv.specs.Code.Form.{form_of}
use lib.ListN.{length, drop}
use Rattle.event.proofs.BytesLaws.{bytes_of}
use Rattle.event_write.proofs.WriteLaws.{all_remains, go_on_lem, finish}
use Rattle.smf.proofs.CameLaws.{event_came}
use Rattle.smf.proofs.TurnLaws.{turn_stop, turn_next, turn_end}
use Rattle.midicsv_write.proofs.TextLaws.{next_line, last_line, events_few}
use mathlib.Core.Path.{refl, sym, ◌∙◌}
use native.Mathlib.Omega.{arith}
use Rattle.midicsv_write.proofs.to_text.put_events.Goals as goal

pub loop-read-init : goal.loop-read-init
loop-read-init c = rw c.start-cursor.ensures (omega arith, refl, c.requires.fact_4, all_remains _ _ _)

pub returns-in_default : goal.returns-in_default
returns-in_default c =
    let a = c.args in
    let s = a.body.now in
    let l = c.loop-read in
    let bytes = bytes_of s (λ i. omega (arith, c.type_inv.body i)) in
    absurd (turn_stop s l.cursor.place l.cursor.time.0 l.cursor.status bytes c.in_default.ensures refl l.invariant.2)

pub put_event_line-next-requires : goal.put_event_line-next-requires
put_event_line-next-requires c =
    let a = c.args in
    let s = a.body.now in
    let l = c.loop-read in
    let bytes = bytes_of s (λ i. omega (arith, c.type_inv.body i)) in
    record { fact_1 = omega (arith, l.invariant.3.place, events_few (form_of a.sheet) a.track s 0 0 0 c.requires.fact_3 bytes c.requires.fact_4, most_few (form_of a.sheet) (length (drop 0 s)), c.requires.fact_1, c.requires.fact_2); fact_2 = c.requires.fact_2 }

pub returns-then-is_end : goal.returns-then-is_end
returns-then-is_end c =
    let a = c.args in
    let s = a.body.now in
    let l = c.loop-read in
    let bytes = bytes_of s (λ i. omega (arith, c.type_inv.body i)) in
    let e = event_came s l.cursor.place l.cursor.time.0 l.cursor.status bytes l.invariant.0 c.in-Ok.ensures refl in
    let all = turn_end bytes e l.invariant.2 (sym c.is_end.ensures ∙ c.if-is_end.true) in
    finish _ _ l.invariant.3 (last_line (form_of a.sheet) a.track e all) c.put_event_line-next.ensures

pub loop-read-smaller : goal.loop-read-smaller
loop-read-smaller c =
    let a = c.args in
    let s = a.body.now in
    let l = c.loop-read in
    let bytes = bytes_of s (λ i. omega (arith, c.type_inv.body i)) in
    let e = event_came s l.cursor.place l.cursor.time.0 l.cursor.status bytes l.invariant.0 c.in-Ok.ensures refl in
    omega (arith, e.later, e.inside)

pub loop-read-preserved : goal.loop-read-preserved
loop-read-preserved c =
    let a = c.args in
    let s = a.body.now in
    let l = c.loop-read in
    let bytes = bytes_of s (λ i. omega (arith, c.type_inv.body i)) in
    let e = event_came s l.cursor.place l.cursor.time.0 l.cursor.status bytes l.invariant.0 c.in-Ok.ensures refl in
    let n = turn_next bytes e l.invariant.2 (sym c.is_end.ensures ∙ c.if-is_end.false) in
    (e.inside, c.put_event_line-next.auto.out ∙ l.invariant.1, n.0, go_on_lem _ _ _ l.invariant.3 (next_line (form_of a.sheet) a.track e n.1) c.put_event_line-next.ensures)
