use mathlib.Core.Path.{◌∙◌, ap}
use lib.ListN.{length}
use Rattle.event.proofs.BytesLaws.{bytes_of}
use Rattle.midicsv.specs.Show.{as_sheet}
use Rattle.midicsv_write.proofs.AnswerLaws.{answer_fits}
use Rattle.noferkash.specs.Packed.{packed}
use Rattle.noferkash.proofs.PackedLaws.{small}
use native.Mathlib.Omega.{arith}
use Rattle.noferkash.proofs.noferkash_file_to_sheet.Goals as goal

pub pack-requires : goal.pack-requires
pack-requires c = let a = c.args in
    let bytes = bytes_of a.file.now (λ i. omega (arith, c.type_inv.file i)) in
    small _ _ c.file_to_sheet.ensures.fact_1 (answer_fits as_sheet (length a.out.now) a.file.now bytes)

pub returns : goal.returns
returns c = (c.pack.ensures ∙ ap packed c.file_to_sheet.ensures.fact_1, c.file_to_sheet.ensures.fact_2)
