use mathlib.Core.Path.{sym, ◌∙◌, ap, ap₂}
use Prim.Native.Nat.{◌+◌}
use lib.ListN.{length}
use native.Mathlib.Omega.{arith}
use Rattle.event.specs.Refusal.{number_of}
use Rattle.event.specs.Step.{frame_step, padded}
use Rattle.event.proofs.PaddingLaws.{type_there}
use Rattle.event.proofs.PassedLaws.{passed}
use Rattle.event.proofs.PlaceLaws.{number_came, number_told, number_bad}
use Rattle.event.proofs.StatusLaws.{meta_none, meta_type, meta_bad, meta_wrong, meta_right, meta_short}
use Rattle.event.proofs.meta.meta_event.Goals as goal

pub returns-then-body-at : goal.returns-then-body-at
unfolding padded
returns-then-body-at c = ap (padded _) (meta_none c.args.body.now c.args.at c.if-body-at.true)

pub returns-then-t-gt127 : goal.returns-then-t-gt127
unfolding padded
returns-then-t-gt127 c = ap (padded _) (meta_type c.args.body.now 0 c.args.at c.if-body-at.false c.if-t-gt127.true)

pub returns-in_err-number : goal.returns-in_err-number
unfolding padded
returns-in_err-number c =
    let a = c.args in
    let e = c.in_err-number.field-0.0 in
    let (z, q) = number_bad _ (length a.body.now) (number_of e) _ (sym c.in_err-number.ensures) in
    passed c.from_residual.result e c.from_residual.ensures.1 ∙ ap (padded _) (meta_bad a.body.now 0 a.at c.if-body-at.false (number_of e) z c.if-t-gt127.false q)

pub returns-then-not-length_ok : goal.returns-then-not-length_ok
unfolding padded
returns-then-not-length_ok c =
    let a = c.args in
    let r = c.in_ok-number.number in
    let (q, h) = number_came _ a.body.now (a.at + 1) r (sym c.in_ok-number.ensures) in
    ap (padded _) (meta_wrong a.body.now 0 a.at c.if-body-at.false r.value r.next c.if-t-gt127.false q (sym c.if-not-length_ok.ensures))

pub overflow_sub-body : goal.overflow_sub-body
overflow_sub-body c = omega (arith, (number_came _ c.args.body.now (c.args.at + 1) c.in_ok-number.number (sym c.in_ok-number.ensures)).1)

pub returns-then-body-start : goal.returns-then-body-start
unfolding padded
returns-then-body-start c =
    let a = c.args in
    let r = c.in_ok-number.number in
    let (q, h) = number_came _ a.body.now (a.at + 1) r (sym c.in_ok-number.ensures) in
    ap (padded _) (meta_short a.body.now 0 a.at c.if-body-at.false r.value r.next c.if-t-gt127.false q (sym c.if-not-length_ok.ensures) c.if-body-start.true)

pub meta_value-requires : goal.meta_value-requires
meta_value-requires c =
    let (q, h) = number_came _ c.args.body.now (c.args.at + 1) c.in_ok-number.number (sym c.in_ok-number.ensures) in
    record { there = omega arith; fits = sym c.if-not-length_ok.ensures }

pub returns-in_err-read : goal.returns-in_err-read
unfolding padded
returns-in_err-read c =
    let a = c.args in
    let r = c.in_ok-number.number in
    let e = c.in_err-read.field-0.0 in
    let came = sym c.in_ok-number.ensures in
    let (q, h) = number_came _ a.body.now (a.at + 1) r came in
    let right = meta_right a.body.now 0 a.at c.if-body-at.false r.value r.next c.if-t-gt127.false q (sym c.if-not-length_ok.ensures) in
    passed c.from_residual-in_err-read.result e c.from_residual-in_err-read.ensures.1 ∙ ap (padded _) (c.in_err-read.ensures ∙ ap (frame_step (length a.body.now)) (sym right))

pub returns : goal.returns
unfolding padded
returns c =
    let a = c.args in
    let r = c.in_ok-number.number in
    let came = sym c.in_ok-number.ensures in
    let (q, h) = number_came _ a.body.now (a.at + 1) r came in
    let right = meta_right a.body.now 0 a.at c.if-body-at.false r.value r.next c.if-t-gt127.false q (sym c.if-not-length_ok.ensures) in
    let told = type_there a.body.now a.at c.if-body-at.false ∙ number_told _ (length a.body.now) _ came in
    ap₂ padded (sym told) (c.in_ok-read.ensures ∙ ap (frame_step (length a.body.now)) (sym right))
