use Prim.Native.Nat.{◌+◌}
use Rattle.event.proofs.BytesLaws.{bytes_of}
use Rattle.smf.specs.Reader.{read_all}
use Rattle.smf.specs.Step.{walk_step, told}
use Rattle.smf.proofs.CameLaws.{event_came, event_padding_lem}
use Rattle.smf.specs.Padding.{all_padding}
use Rattle.std.specs.Prelude.{Ok}
use Rattle.smf.proofs.PaddingLaws.{padding_next, padding_end, padding_taken}
use Rattle.smf.proofs.WalkLaws.{turn_stop, turn_next, turn_end, turn_more}
use native.Mathlib.Omega.{arith}
use mathlib.Core.Path.{◌≡◌, sym, ◌∙◌, ap, refl}
use Rattle.smf.proofs.track.walk_track.Goals as goal

pub loop-read-init : goal.loop-read-init
loop-read-init c = let a = c.args in
    let e : a.base ≡ a.base + 0 = omega arith in
    rw c.start-start.ensures (omega arith, omega arith, ap (λ z. walk_step 0 0 (all_padding 0 0 a.body.now) (read_all z 0 0 a.body.now)) e, omega arith, omega arith)

pub returns-in-Err : goal.returns-in-Err
returns-in-Err c = let a = c.args in
    let l = c.loop-read in
    let bytes = bytes_of a.body.now (λ i. omega (arith, c.type_inv.body i)) in
    ap told c.refuse.ensures ∙ sym (l.invariant.2 ∙ turn_stop _ a.body.now a.base l.cursor.place l.cursor.time.0 l.events l.cursor.status bytes c.in-Err.ensures refl)

pub overflow_add-events : goal.overflow_add-events
overflow_add-events c = let a = c.args in
    let l = c.loop-read in
    let bytes = bytes_of a.body.now (λ i. omega (arith, c.type_inv.body i)) in
    let e = event_came a.body.now l.cursor.place l.cursor.time.0 l.cursor.status bytes l.invariant.0 c.in-Ok.ensures refl in
    omega (arith, e.later, e.inside)

pub overflow_add-padding : goal.overflow_add-padding
overflow_add-padding c = let a = c.args in
    let l = c.loop-read in
    let bytes = bytes_of a.body.now (λ i. omega (arith, c.type_inv.body i)) in
    let e = event_came a.body.now l.cursor.place l.cursor.time.0 l.cursor.status bytes l.invariant.0 c.in-Ok.ensures refl in
    let x = event_padding_lem a.body.now l.cursor.place l.cursor.time.0 l.cursor.status c.in-Ok.ensures refl in
    omega (arith, e.later, e.inside, padding_taken bytes e _ x, l.invariant.4)

pub overflow_add-place : goal.overflow_add-place
overflow_add-place c = let a = c.args in
    let l = c.loop-read in
    let bytes = bytes_of a.body.now (λ i. omega (arith, c.type_inv.body i)) in
    let e = event_came a.body.now l.cursor.place l.cursor.time.0 l.cursor.status bytes l.invariant.0 c.in-Ok.ensures refl in
    omega (arith, e.later, e.inside)

pub returns-then-more : goal.returns-then-more
returns-then-more c = let a = c.args in
    let l = c.loop-read in
    let bytes = bytes_of a.body.now (λ i. omega (arith, c.type_inv.body i)) in
    let e = event_came a.body.now l.cursor.place l.cursor.time.0 l.cursor.status bytes l.invariant.0 c.in-Ok.ensures refl in
    ap told c.refuse-then-more.ensures ∙ sym (l.invariant.2 ∙ turn_more _ a.base l.events bytes e (sym c.is_end.ensures ∙ c.if-is_end.true) c.if-more.true)

pub returns-then-is_end : goal.returns-then-is_end
returns-then-is_end c = let a = c.args in
    let l = c.loop-read in
    let bytes = bytes_of a.body.now (λ i. omega (arith, c.type_inv.body i)) in
    let e = event_came a.body.now l.cursor.place l.cursor.time.0 l.cursor.status bytes l.invariant.0 c.in-Ok.ensures refl in
    let last = sym c.is_end.ensures ∙ c.if-is_end.true in
    let x = event_padding_lem a.body.now l.cursor.place l.cursor.time.0 l.cursor.status c.in-Ok.ensures refl in
    ap (λ z. Ok (record { time = c.in-Ok.read.next.time; events = l.events + 1; padding = z })) (omega (arith, padding_end bytes e _ x l.padding _ last l.invariant.3)) ∙ sym (l.invariant.2 ∙ turn_end _ a.base l.events bytes e last c.if-more.false)

pub loop-read-smaller : goal.loop-read-smaller
loop-read-smaller c = let a = c.args in
    let l = c.loop-read in
    let bytes = bytes_of a.body.now (λ i. omega (arith, c.type_inv.body i)) in
    let e = event_came a.body.now l.cursor.place l.cursor.time.0 l.cursor.status bytes l.invariant.0 c.in-Ok.ensures refl in
    omega (arith, e.later, e.inside)

pub loop-read-preserved : goal.loop-read-preserved
loop-read-preserved c = let a = c.args in
    let l = c.loop-read in
    let bytes = bytes_of a.body.now (λ i. omega (arith, c.type_inv.body i)) in
    let e = event_came a.body.now l.cursor.place l.cursor.time.0 l.cursor.status bytes l.invariant.0 c.in-Ok.ensures refl in
    let x = event_padding_lem a.body.now l.cursor.place l.cursor.time.0 l.cursor.status c.in-Ok.ensures refl in
    let last = sym c.is_end.ensures ∙ c.if-is_end.false in
    (e.inside, omega (arith, e.later, e.inside), l.invariant.2 ∙ turn_next _ a.base l.events bytes e last, omega (arith, padding_next bytes e _ x l.padding _ last l.invariant.3), omega (arith, e.later, e.inside, padding_taken bytes e _ x, l.invariant.4))
