use mathlib.Core.Path.{sym, ◌∙◌, ap}
use Prim.Native.Nat.{◌+◌}
use native.Mathlib.Omega.{arith}
use Rattle.std.specs.Prelude.{Ok}
use Rattle.event.specs.Outcome.{and_then}
use Rattle.event.specs.Reader.{one_data}
use Rattle.event.specs.Refusal.{number_of}
use Rattle.event.specs.Step.{frame_step}
use Rattle.event.proofs.PassedLaws.{passed}
use Rattle.event.proofs.PlaceLaws.{byte_came, byte_bad, place_back}
use Rattle.event.proofs.channel.one_byte.Goals as goal

pub returns-in_err-a : goal.returns-in_err-a
unfolding one_data and_then frame_step
returns-in_err-a c =
    let e = c.in_err-a.field-0.0 in
    let (z, q) = byte_bad (number_of e) _ (sym c.in_err-a.ensures) in
    passed c.from_residual.result e c.from_residual.ensures.1 ∙ simp q

pub overflow_add-at : goal.overflow_add-at
overflow_add-at c = let (q, h) = byte_came c.args.body.now c.args.at c.in_ok-a.a (sym c.in_ok-a.ensures) in omega (arith, h)

pub returns : goal.returns
unfolding one_data and_then frame_step
returns c =
    let s = c.args.body.now in
    let (q, h) = byte_came s c.args.at c.in_ok-a.a (sym c.in_ok-a.ensures) in
    ap Ok c.one.ensures ∙ simp (q, place_back s (c.args.at + 1) (omega arith))
