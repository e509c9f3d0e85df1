use Rattle.midicsv_scan.proofs.NumberLaws.{digit_range, going_small, going_on, going_stop, going_over, going_end}
use native.Mathlib.Omega.{arith}
use mathlib.Core.Path.{sym, ◌∙◌}
use Rattle.midicsv_scan.proofs.number.digits.Goals as goal

pub returns-then-not-is_digit : goal.returns-then-not-is_digit
returns-then-not-is_digit c = going_stop c.loop-p.invariant c.loop-p-test.true (sym c.is_digit.ensures ∙ c.if-not-is_digit.true)

pub returns-then-p-at-ge-MOST_DIGITS : goal.returns-then-p-at-ge-MOST_DIGITS
returns-then-p-at-ge-MOST_DIGITS c = going_over c.loop-p.invariant c.loop-p-test.true (sym c.is_digit.ensures ∙ c.if-not-is_digit.false) c.if-p-at-ge-MOST_DIGITS.true

pub overflow_mul-value : goal.overflow_mul-value
overflow_mul-value c = omega (arith, going_small c.loop-p.invariant)

pub overflow_sub-c : goal.overflow_sub-c
overflow_sub-c c = omega (arith, digit_range _ (sym c.is_digit.ensures ∙ c.if-not-is_digit.false))

pub overflow_add-value : goal.overflow_add-value
overflow_add-value c = omega (arith, going_small c.loop-p.invariant, digit_range _ (sym c.is_digit.ensures ∙ c.if-not-is_digit.false))

pub loop-p-preserved : goal.loop-p-preserved
loop-p-preserved c = rw c.from.ensures (going_on c.loop-p.invariant c.loop-p-test.true (sym c.is_digit.ensures ∙ c.if-not-is_digit.false) c.if-p-at-ge-MOST_DIGITS.false)

pub returns : goal.returns
returns c = going_end c.loop-p.invariant c.loop-p-test.false
