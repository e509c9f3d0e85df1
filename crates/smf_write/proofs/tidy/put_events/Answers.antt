use Rattle.event.specs.Step.{kind_from}
use Rattle.event.specs.declared.Delta.{Delta}
use Rattle.event_write.specs.Head.{manner_of, head_bytes, data_of}
use Prim.Native.Nat.{ℕ}
use mathlib.Core.List.{List, ◌++◌}
use Rattle.event.proofs.BytesLaws.{bytes_of}
use Rattle.event_write.proofs.WriteLaws.{all_remains, go_on_lem, finish}
use Rattle.smf.proofs.CameLaws.{event_came}
use Rattle.smf.proofs.TurnLaws.{turn_stop, turn_next, turn_end}
use Rattle.smf_write.proofs.TidyLaws.{Left, next_left, end_left, left_small}
use native.Mathlib.Omega.{arith}
use mathlib.Core.Path.{refl, sym, ◌∙◌, ap}
use Rattle.smf_write.proofs.tidy.put_events.Goals as goal

pub loop-read-init : goal.loop-read-init
loop-read-init c = rw c.start-cursor.ensures (omega arith, refl, c.requires.fact_3, all_remains _ _ _)

pub returns-in_default : goal.returns-in_default
returns-in_default c = let a = c.args in
    let s = a.body.now in
    let l = c.loop-read in
    let bytes = bytes_of s (λ i. omega (arith, c.type_inv.body i)) in
    absurd (turn_stop s l.cursor.place l.cursor.time.0 l.cursor.status bytes c.in_default.ensures refl l.invariant.2)

pub put_event-next-requires : goal.put_event-next-requires
put_event-next-requires c = let a = c.args in
    let s = a.body.now in
    let l = c.loop-read in
    let bytes = bytes_of s (λ i. omega (arith, c.type_inv.body i)) in
    record { fact_1 = omega (arith, l.invariant.3.place, left_small (manner_of a.short) s 0 0 0 bytes c.requires.fact_3, c.requires.fact_1, c.requires.fact_2); fact_2 = omega (arith, c.requires.fact_2) }

pub returns-then-is_end : goal.returns-then-is_end
returns-then-is_end c = let a = c.args in
    let s = a.body.now in
    let l = c.loop-read in
    let bytes = bytes_of s (λ i. omega (arith, c.type_inv.body i)) in
    let k = c.in-Ok.read.kind in
    let delta = ap (λ (d : Delta). d.0) c.step-delta.ensures in
    let item : ℕ → List ℕ = λ z. head_bytes (manner_of a.short) l.cursor.status z k ++ data_of (kind_from s k) in
    let e = event_came s l.cursor.place l.cursor.time.0 l.cursor.status bytes l.invariant.0 c.in-Ok.ensures refl in
    let all = turn_end bytes e l.invariant.2 (sym c.is_end.ensures ∙ c.if-is_end.true) in
    finish _ _ l.invariant.3 (end_left (manner_of a.short) e all ∙ ap item (sym delta)) c.put_event-next.ensures

pub loop-read-smaller : goal.loop-read-smaller
loop-read-smaller c = let a = c.args in
    let s = a.body.now in
    let l = c.loop-read in
    let bytes = bytes_of s (λ i. omega (arith, c.type_inv.body i)) in
    let e = event_came s l.cursor.place l.cursor.time.0 l.cursor.status bytes l.invariant.0 c.in-Ok.ensures refl in
    omega (arith, e.later, e.inside)

pub loop-read-preserved : goal.loop-read-preserved
loop-read-preserved c = let a = c.args in
    let s = a.body.now in
    let l = c.loop-read in
    let bytes = bytes_of s (λ i. omega (arith, c.type_inv.body i)) in
    let k = c.in-Ok.read.kind in
    let q = c.in-Ok.read.next.place in
    let st = c.in-Ok.read.next.status in
    let delta = ap (λ (d : Delta). d.0) c.step-delta.ensures in
    let item : ℕ → List ℕ = λ z. head_bytes (manner_of a.short) l.cursor.status z k ++ data_of (kind_from s k) in
    let e = event_came s l.cursor.place l.cursor.time.0 l.cursor.status bytes l.invariant.0 c.in-Ok.ensures refl in
    let n = turn_next bytes e l.invariant.2 (sym c.is_end.ensures ∙ c.if-is_end.false) in
    (e.inside, c.put_event-next.auto.out ∙ l.invariant.1, n.0, go_on_lem _ _ _ l.invariant.3 (next_left (manner_of a.short) e n.1 ∙ ap (λ z. item z ++ Left (manner_of a.short) s q c.in-Ok.read.next.time.0 st) (sym delta)) c.put_event-next.ensures)
