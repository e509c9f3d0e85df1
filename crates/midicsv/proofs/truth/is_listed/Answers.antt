use Rattle.std.proofs.Common.{arith}
use Rattle.event.specs.Choice.{pick}
use Rattle.midicsv.specs.TruthWords.{words2, words3, words4, words5, words6, words7, words8, words9, words10, words11, words12, truth_words}
use Rattle.midicsv.specs.Code.Words.{words_for, words_in}
use Rattle.midicsv.proofs.TruthLaws.{sized, in_row_lem, no_length}
use mathlib.Core.Path.{refl, ◌∙◌}
use Rattle.midicsv.proofs.truth.is_listed.Goals as goal

pub returns-in-2 : goal.returns-in-2
unfolding sized truth_words words_in words_for pick
returns-in-2 c = c.among.ensures ∙ in_row_lem 2 _ words2 c.in-2.is refl

pub returns-in-3 : goal.returns-in-3
unfolding sized truth_words words_in words_for pick
returns-in-3 c = c.among-in-3.ensures ∙ in_row_lem 3 _ words3 c.in-3.is refl

pub returns-in-4 : goal.returns-in-4
unfolding sized truth_words words_in words_for pick
returns-in-4 c = c.among-in-4.ensures ∙ in_row_lem 4 _ words4 c.in-4.is refl

pub returns-in-5 : goal.returns-in-5
unfolding sized truth_words words_in words_for pick
returns-in-5 c = c.among-in-5.ensures ∙ in_row_lem 5 _ words5 c.in-5.is refl

pub returns-in-6 : goal.returns-in-6
unfolding sized truth_words words_in words_for pick
returns-in-6 c = c.among-in-6.ensures ∙ in_row_lem 6 _ words6 c.in-6.is refl

pub returns-in-7 : goal.returns-in-7
unfolding sized truth_words words_in words_for pick
returns-in-7 c = c.among-in-7.ensures ∙ in_row_lem 7 _ words7 c.in-7.is refl

pub returns-in-8 : goal.returns-in-8
unfolding sized truth_words words_in words_for pick
returns-in-8 c = c.among-in-8.ensures ∙ in_row_lem 8 _ words8 c.in-8.is refl

pub returns-in-9 : goal.returns-in-9
unfolding sized truth_words words_in words_for pick
returns-in-9 c = c.among-in-9.ensures ∙ in_row_lem 9 _ words9 c.in-9.is refl

pub returns-in-10 : goal.returns-in-10
unfolding sized truth_words words_in words_for pick
returns-in-10 c = c.among-in-10.ensures ∙ in_row_lem 10 _ words10 c.in-10.is refl

pub returns-in-11 : goal.returns-in-11
unfolding sized truth_words words_in words_for pick
returns-in-11 c = c.among-in-11.ensures ∙ in_row_lem 11 _ words11 c.in-11.is refl

pub returns-in-12 : goal.returns-in-12
unfolding sized truth_words words_in words_for pick
returns-in-12 c = c.among-in-12.ensures ∙ in_row_lem 12 _ words12 c.in-12.is refl

pub returns-in_default : goal.returns-in_default
returns-in_default c = no_length c.args.word.now (λ two. omega arith)
