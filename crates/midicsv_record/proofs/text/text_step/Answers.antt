use mathlib.Core.Path.{subst}
use Rattle.event.specs.Choice.{pick}
use Rattle.midicsv_scan.specs.Unquoted.{unquoted}
use Rattle.midicsv_record.specs.TextState.{seen_as, step_as, Small, SmallStep}
use native.Mathlib.Omega.{arith}
use borrow.Author.Tests.{eq-eqb, ne_eqb}
use Rattle.midicsv_record.proofs.text.text_step.Goals as goal

pub returns-then-c-eq34 : goal.returns-then-c-eq34
unfolding step_as unquoted seen_as pick Small SmallStep
returns-then-c-eq34 c = record { fact_1 = λ l. rw (c.in-Plain.is, eq-eqb _ 34 c.if-c-eq34.true); fact_2 = tt }

pub returns-then-c-eq92 : goal.returns-then-c-eq92
unfolding step_as unquoted seen_as pick Small SmallStep
returns-then-c-eq92 c = record { fact_1 = λ l. rw (c.in-Plain.is, ne_eqb _ 34 c.if-c-eq34.false, eq-eqb _ 92 c.if-c-eq92.true); fact_2 = tt }

pub returns-then-c-eq34-2 : goal.returns-then-c-eq34-2
unfolding step_as unquoted seen_as pick Small SmallStep
returns-then-c-eq34-2 c = record { fact_1 = λ l. rw (c.in-Quote.is, eq-eqb _ 34 c.if-c-eq34-2.true); fact_2 = tt }

pub returns-then-c-eq92-2 : goal.returns-then-c-eq92-2
unfolding step_as unquoted seen_as pick Small SmallStep
returns-then-c-eq92-2 c = record { fact_1 = λ l. rw (c.in-Slash.is, eq-eqb _ 92 c.if-c-eq92-2.true); fact_2 = tt }

pub overflow_mul-result : goal.overflow_mul-result
unfolding step_as unquoted seen_as pick Small SmallStep
overflow_mul-result c = let p = subst Small c.in-One.is c.requires in record { fits = omega (arith, p) }

pub overflow_add-result : goal.overflow_add-result
unfolding step_as unquoted seen_as pick Small SmallStep
overflow_add-result c = let p = subst Small c.in-One.is c.requires in record { fits = omega (arith, p, c.digit-in-One.ensures) }

pub overflow_mul-result-in-Two : goal.overflow_mul-result-in-Two
unfolding step_as unquoted seen_as pick Small SmallStep
overflow_mul-result-in-Two c = let p = subst Small c.in-Two.is c.requires in record { fits = omega (arith, p) }

pub overflow_add-result-in-Two : goal.overflow_add-result-in-Two
unfolding step_as unquoted seen_as pick Small SmallStep
overflow_add-result-in-Two c = let p = subst Small c.in-Two.is c.requires in record { fits = omega (arith, p, c.digit-in-Two.ensures) }

pub returns-else-c-eq92 : goal.returns-else-c-eq92
unfolding step_as unquoted seen_as pick Small SmallStep
returns-else-c-eq92 c = record { fact_1 = λ l. rw (c.in-Plain.is, ne_eqb _ 34 c.if-c-eq34.false, ne_eqb _ 92 c.if-c-eq92.false); fact_2 = tt }

pub returns-else-c-eq34-2 : goal.returns-else-c-eq34-2
unfolding step_as unquoted seen_as pick Small SmallStep
returns-else-c-eq34-2 c = record { fact_1 = λ l. rw (c.in-Quote.is, ne_eqb _ 34 c.if-c-eq34-2.false); fact_2 = tt }

pub returns-else-c-eq92-2 : goal.returns-else-c-eq92-2
unfolding step_as unquoted seen_as pick Small SmallStep
returns-else-c-eq92-2 c = record { fact_1 = λ l. rw (c.in-Slash.is, ne_eqb _ 92 c.if-c-eq92-2.false, c.digit.ensures); fact_2 = omega (arith, c.digit.ensures) }

pub returns-in-One : goal.returns-in-One
unfolding step_as unquoted seen_as pick Small SmallStep
returns-in-One c = let p = subst Small c.in-One.is c.requires in record { fact_1 = λ l. rw (c.in-One.is, c.digit-in-One.ensures); fact_2 = omega (arith, p, c.digit-in-One.ensures) }

pub returns-in-Two : goal.returns-in-Two
unfolding step_as unquoted seen_as pick Small SmallStep
returns-in-Two c = record { fact_1 = λ l. rw (c.in-Two.is, c.digit-in-Two.ensures); fact_2 = tt }
