use Prim.Native.Nat.{ℕ, ◌+◌, ◌*◌, ◌<◌, ◌-◌}
use mathlib.Core.Path.{◌≡◌, refl, sym, ◌∙◌, ap}
use mathlib.Core.List.{List}
use native.Mathlib.Omega.{arith}
use lib.ListN.{length, drop, get_or}
use Rattle.event.specs.Bytes.{Bytes}
use Rattle.event.specs.Reader.{read_vlq}
use Rattle.event.specs.Step.{number_step}
use Rattle.event.specs.Padding.{vlq_padding}
use Rattle.std.specs.Prelude.{Ok}
use Rattle.event.proofs.BytesLaws.{bytes_of}
use Rattle.event.proofs.PlaceLaws.{number_came}
use Rattle.event.proofs.PaddingLaws.{took, significant, next_bytes, lead_bytes}
use Rattle.event.proofs.LoopLaws.{room, More, room_small, turn_short, turn_last, turn_on, turn_none}
use Rattle.event.proofs.number.read_number.Goals as goal

-- what is known at the last byte
last_turn : (s : List ℕ) (at left acc p padding : ℕ) → Bytes s → 0 < left → p < length s → get_or s p 0 < 128 → acc < room left
    → More (vlq_padding (drop at s)) s 4 0 at ≡ More (vlq_padding (drop at s)) s left acc p → p + left ≡ at + 4 → padding + significant acc + left ≡ 4
    → Ok (record { value = acc * 128 + get_or s p 0; next = p + 1; padding = padding }) ≡ number_step (length s) (vlq_padding (drop at s)) (read_vlq (drop at s))
unfolding read_vlq
last_turn s at left acc p padding bs h k low small inv place count =
    let v : ℕ = acc * 128 + get_or s p 0 in
    let e = inv ∙ turn_last (vlq_padding (drop at s)) s left acc p h k low in
    let (come, inside) = number_came _ s at (record { value = v; next = p + 1; padding = vlq_padding (drop at s) }) e in
    let (a, b, d) = took s at v (p + 1) bs inside come in
    let n = next_bytes acc (get_or s p 0) (room_small left acc h small) low in
    let same : padding ≡ vlq_padding (drop at s) = omega (arith, d, n, place, count) in
    ap (λ x. Ok (record { value = v; next = p + 1; padding = x })) same ∙ sym e

pub loop-come-init : goal.loop-come-init
unfolding read_vlq
loop-come-init c = (omega arith, refl, omega arith, omega arith)

pub returns-then-body-p : goal.returns-then-body-p
unfolding read_vlq
returns-then-body-p c =
    let l = c.loop-come in
    sym (l.invariant.1 ∙ turn_short _ c.args.body.now (4 - l.come) l.acc l.p (omega (arith, c.loop-come-test.true)) c.if-body-p.true)

pub overflow_mul-value : goal.overflow_mul-value
overflow_mul-value c = let l = c.loop-come in omega (arith, room_small (4 - l.come) l.acc (omega (arith, c.loop-come-test.true)) l.invariant.0)

pub overflow_add-value : goal.overflow_add-value
overflow_add-value c = let l = c.loop-come in omega (arith, room_small (4 - l.come) l.acc (omega (arith, c.loop-come-test.true)) l.invariant.0)

pub returns-then-b-lt128 : goal.returns-then-b-lt128
unfolding read_vlq
returns-then-b-lt128 c =
    let a = c.args in
    let l = c.loop-come in
    let more = c.loop-come-test.true in
    let bytes = bytes_of a.body.now (λ i. omega (arith, c.type_inv.body i)) in
    last_turn a.body.now a.at (4 - l.come) l.acc l.p l.padding bytes (omega (arith, more)) c.if-body-p.false c.if-b-lt128.true l.invariant.0 l.invariant.1 (omega (arith, more, l.invariant.2)) (omega (arith, more, l.invariant.3))

pub overflow_mul-acc : goal.overflow_mul-acc
overflow_mul-acc c = let l = c.loop-come in omega (arith, room_small (4 - l.come) l.acc (omega (arith, c.loop-come-test.true)) l.invariant.0)

pub overflow_add-acc : goal.overflow_add-acc
overflow_add-acc c =
    let l = c.loop-come in
    omega (arith, room_small (4 - l.come) l.acc (omega (arith, c.loop-come-test.true)) l.invariant.0, c.type_inv.body l.p)

pub padding_after-padding-requires : goal.padding_after-padding-requires
padding_after-padding-requires c = omega (arith, c.loop-come.invariant.3, c.loop-come-test.true)

pub loop-come-preserved : goal.loop-come-preserved
unfolding read_vlq
loop-come-preserved c =
    let a = c.args in
    let s = a.body.now in
    let l = c.loop-come in
    let more : 0 < 4 - l.come = omega (arith, c.loop-come-test.true) in
    let b : get_or s l.p 0 < 256 = omega (arith, c.type_inv.body l.p) in
    let t = turn_on (vlq_padding (drop a.at s)) s (4 - l.come) l.acc l.p more c.if-body-p.false c.if-b-lt128.false b (omega arith) l.invariant.0 in
    let n = lead_bytes l.acc (get_or s l.p 0 - 128) l.padding (room_small (4 - l.come) l.acc more l.invariant.0) (omega arith) in
    let left : 4 - l.come - 1 ≡ 4 - (l.come + 1) = omega arith in
    (rw left at t.1, l.invariant.1 ∙ rw left at t.0, omega (arith, l.invariant.2), omega (arith, c.padding_after-padding.ensures, n, l.invariant.3))

pub returns : goal.returns
unfolding read_vlq
returns c = let l = c.loop-come in sym (l.invariant.1 ∙ turn_none _ c.args.body.now (4 - l.come) l.acc l.p (omega (arith, c.loop-come-test.false)))
