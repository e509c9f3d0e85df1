use mathlib.Core.Path.{sym, ◌∙◌, ap, ap₂}
use lib.ListN.{length}
use native.Mathlib.Omega.{arith}
use Rattle.event.specs.Outcome.{and_then}
use Rattle.event.specs.Reader.{read_exclusive}
use Rattle.event.specs.Refusal.{number_of}
use Rattle.event.specs.Step.{frame_step, padded}
use Rattle.event.proofs.PassedLaws.{passed}
use Rattle.event.proofs.PlaceLaws.{number_came, number_told, number_bad}
use Rattle.event.proofs.RowLaws.{exclusive_short, exclusive_first, exclusive_other}
use Rattle.event.proofs.meta.exclusive_event.Goals as goal
use Rattle.event.proofs.meta.exclusive_event.Goals.{in-240, in_default}

pub returns-in_err-number : goal.returns-in_err-number
unfolding read_exclusive and_then frame_step padded
returns-in_err-number c =
    let e = c.in_err-number.field-0.0 in
    let (z, q) = number_bad _ (length c.args.body.now) (number_of e) _ (sym c.in_err-number.ensures) in
    passed c.from_residual.result e c.from_residual.ensures.1 ∙ simp q

pub overflow_sub-body : goal.overflow_sub-body
overflow_sub-body c = omega (arith, (number_came _ c.args.body.now c.args.at c.in_ok-number.number (sym c.in_ok-number.ensures)).1)

pub returns-then-body-start : goal.returns-then-body-start
unfolding padded
returns-then-body-start c =
    let a = c.args in
    let r = c.in_ok-number.number in
    let (q, h) = number_came _ a.body.now a.at r (sym c.in_ok-number.ensures) in
    ap (padded _) (exclusive_short a.body.now a.status a.at r.value r.next q c.if-body-start.true)

pub returns : goal.returns
unfolding padded
returns c =
    let a = c.args in
    let r = c.in_ok-number.number in
    let (q, h) = number_came _ a.body.now a.at r (sym c.in_ok-number.ensures) in
    let told = sym (number_told _ (length a.body.now) _ (sym c.in_ok-number.ensures)) in
    elim c.match-status.branch [
      | in-240 w ↦ rw (c.silent.ensures, w.kind-is) (ap₂ padded told (exclusive_first a.body.now a.status a.at r.value r.next q (omega arith) w.in-240.is))
      | in_default w ↦ rw (c.silent.ensures, w.kind-is) (ap₂ padded told (exclusive_other a.body.now a.status a.at r.value r.next q (omega arith) (omega arith)))
    ]
