use mathlib.Core.Path.{◌∙◌, ap}
use lib.ListN.{length}
use Rattle.midicsv_read.proofs.AnswerLaws.{answer_fits}
use Rattle.noferkash.specs.Packed.{packed}
use Rattle.noferkash.proofs.PackedLaws.{small}
use Rattle.noferkash.proofs.noferkash_text_to_file.Goals as goal

pub pack-requires : goal.pack-requires
pack-requires c = let a = c.args in
    small _ _ c.text_to_file.ensures.fact_1 (answer_fits a.text.now a.manner (length a.out.now))

pub returns : goal.returns
returns c = (c.pack.ensures ∙ ap packed c.text_to_file.ensures.fact_1, c.text_to_file.ensures.fact_2)
