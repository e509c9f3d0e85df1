use mathlib.Core.Path.{◌≡◌, sym, ◌∙◌, ap}
use Prim.Native.Nat.{◌+◌, ◌-◌}
use lib.ListN.{length, drop}
use native.Mathlib.Omega.{arith}
use Rattle.std.specs.Prelude.{Ok}
use Rattle.event.specs.Frame.{channel2}
use Rattle.event.specs.Outcome.{and_then}
use Rattle.event.specs.Reader.{two_data}
use Rattle.event.specs.Refusal.{number_of}
use Rattle.event.specs.Step.{frame_at, frame_step}
use Rattle.event.proofs.PassedLaws.{passed}
use Rattle.event.proofs.PlaceLaws.{byte_came, byte_bad, place_back}
use Rattle.event.proofs.channel.two_bytes.Goals as goal

pub returns-in_err-a : goal.returns-in_err-a
unfolding two_data and_then frame_step
returns-in_err-a c =
    let e = c.in_err-a.field-0.0 in
    let (z, q) = byte_bad (number_of e) _ (sym c.in_err-a.ensures) in
    passed c.from_residual.result e c.from_residual.ensures.1 ∙ simp q

pub overflow_add-at : goal.overflow_add-at
overflow_add-at c = let (q, h) = byte_came c.args.body.now c.args.at c.in_ok-a.a (sym c.in_ok-a.ensures) in omega (arith, h)

pub returns-in_err-b : goal.returns-in_err-b
unfolding two_data and_then frame_step
returns-in_err-b c =
    let e = c.in_err-b.field-0.0 in
    let (q, h) = byte_came c.args.body.now c.args.at c.in_ok-a.a (sym c.in_ok-a.ensures) in
    let (z, r) = byte_bad (number_of e) _ (sym c.in_err-b.ensures) in
    passed c.from_residual-in_err-b.result e c.from_residual-in_err-b.ensures.1 ∙ simp (q, r)

pub overflow_add-at-2 : goal.overflow_add-at-2
overflow_add-at-2 c = let (q, h) = byte_came c.args.body.now (c.args.at + 1) c.in_ok-b.b (sym c.in_ok-b.ensures) in omega (arith, h)

pub returns : goal.returns
unfolding two_data and_then frame_step
returns c =
    let s = c.args.body.now in
    let (q, h) = byte_came s c.args.at c.in_ok-a.a (sym c.in_ok-a.ensures) in
    let (r, k) = byte_came s (c.args.at + 1) c.in_ok-b.b (sym c.in_ok-b.ensures) in
    let back : length s - length (drop (c.args.at + 1 + 1) s) ≡ c.args.at + 2 = place_back s (c.args.at + 1 + 1) (omega arith) ∙ omega arith in
    let came : frame_step (length s) (two_data c.args.status (drop c.args.at s)) ≡ Ok (frame_at (length s - length (drop (c.args.at + 1 + 1) s)) (channel2 c.args.status c.in_ok-a.a c.in_ok-b.b)) = simp (q, r) in
    ap Ok c.two.ensures ∙ ap (λ z. Ok (frame_at z (channel2 c.args.status c.in_ok-a.a c.in_ok-b.b))) (sym back) ∙ sym came
