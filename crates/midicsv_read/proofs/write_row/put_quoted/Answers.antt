use mathlib.Core.Path.{◌≡◌, subst, refl, ◌∙◌, ap}
use Prim.Native.Nat.{◌+◌}
use lib.ListN.{drop}
use Rattle.event_write.proofs.WriteLaws.{all_remains, less_remains, none_remains}
use Rattle.midicsv.specs.ReadField.{plain}
use Rattle.midicsv_record.specs.TextState.{seen_as, step_as, Small, SmallStep}
use Rattle.midicsv_record.proofs.TextLaws.{quoted_turn, quoted_end}
use Rattle.midicsv_read.proofs.QuotedLaws.{unquoted_most}
use native.Mathlib.Omega.{arith}
use borrow.Author.Rules.{rules}
use Rattle.midicsv_read.proofs.write_row.put_quoted.Goals as goal
use Rattle.midicsv_read.proofs.write_row.put_quoted.Goals.{in-Nothing, in-Byte}

pub loop-c-init : goal.loop-c-init
unfolding seen_as Small
loop-c-init c = let first : c.args.start + 0 ≡ c.args.start = omega arith in rw first (refl, tt, all_remains _ _ _)

pub put_byte-next-requires : goal.put_byte-next-requires
put_byte-next-requires c = let s = c.args.line.now in omega (arith, c.loop-c.invariant.2.place, unquoted_most s c.args.start plain, c.requires.fact_1, c.requires.fact_2, c.requires.fact_3)

pub loop-c-preserved : goal.loop-c-preserved
unfolding step_as SmallStep
loop-c-preserved c =
    let l = c.loop-c in
    let s = c.args.line.now in
    let q = quoted_turn s c.args.start l.c-index l.passed c.text_step.result c.loop-c-test.true c.text_step.ensures.fact_1 in
    let rest = drop (c.args.start + (l.c-index + 1)) s in
    elim c.match-text_step.branch [
      | in-Nothing w ↦
          let here = q ∙ ap (λ z. step_as z rest) w.in-Nothing.is in
          rw (w.out-is, w.next-is, w.passed-is) (l.invariant.0, subst SmallStep w.in-Nothing.is c.text_step.ensures.fact_2, rw here at l.invariant.2)
      | in-Byte w ↦
          let here = q ∙ ap (λ z. step_as z rest) w.in-Byte.is in
          rw (w.out-is, w.next-is, w.passed-is) (search rules, subst SmallStep w.in-Byte.is c.text_step.ensures.fact_2, less_remains (rw here at l.invariant.2) w.put_byte-next.ensures)
    ]

pub returns-in-Closed : goal.returns-in-Closed
unfolding step_as
returns-in-Closed c =
    let l = c.loop-c in
    let s = c.args.line.now in
    let q = quoted_turn s c.args.start l.c-index l.passed c.text_step.result c.loop-c-test.true c.text_step.ensures.fact_1 in
    none_remains (rw (q ∙ ap (λ z. step_as z (drop (c.args.start + (l.c-index + 1)) s)) c.in-Closed.is) at l.invariant.2)

pub returns : goal.returns
returns c =
    let l = c.loop-c in
    none_remains (rw (quoted_end c.args.line.now c.args.start l.c-index (seen_as l.passed) c.loop-c-test.false) at l.invariant.2)
