use mathlib.Core.Path.{◌∙◌, ap}
use lib.ListN.{length}
use Rattle.event.proofs.BytesLaws.{bytes_of}
use Rattle.smf_write.proofs.AnswerLaws.{answer_fits}
use Rattle.noferkash.specs.Packed.{packed}
use Rattle.noferkash.proofs.PackedLaws.{small}
use native.Mathlib.Omega.{arith}
use Rattle.noferkash.proofs.noferkash_tidy.Goals as goal

pub pack-requires : goal.pack-requires
pack-requires c = let a = c.args in
    let bytes = bytes_of a.file.now (λ i. omega (arith, c.type_inv.file i)) in
    small _ _ c.tidy.ensures.fact_1 (answer_fits (length a.out.now) a.file.now bytes)

pub returns : goal.returns
returns c = (c.pack.ensures ∙ ap packed c.tidy.ensures.fact_1, c.tidy.ensures.fact_2)
