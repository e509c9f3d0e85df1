use mathlib.Core.Path.{◌∙◌, ap}
use lib.ListN.{length}
use Rattle.sheet_table.proofs.TableAnswerLaws.{answer_fits}
use Rattle.noferkash.specs.Packed.{packed}
use Rattle.noferkash.proofs.PackedLaws.{small}
use Rattle.noferkash.proofs.noferkash_sheet_to_text.Goals as goal

pub pack-requires : goal.pack-requires
pack-requires c = let a = c.args in
    small _ _ c.sheet_to_text.ensures.fact_1 (answer_fits (length a.out.now) a.saved.now)

pub returns : goal.returns
returns c = (c.pack.ensures ∙ ap packed c.sheet_to_text.ensures.fact_1, c.sheet_to_text.ensures.fact_2)
