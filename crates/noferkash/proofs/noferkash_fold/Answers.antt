use lib.ListN.{length}
use Rattle.event.proofs.BytesLaws.{bytes_of}
use Rattle.fold_piece.proofs.AnswerLaws.{answer_fits}
use Rattle.noferkash.specs.Packed.{packed}
use Rattle.noferkash.proofs.PackedLaws.{small}
use native.Mathlib.Omega.{arith}
use mathlib.Core.Path.{◌∙◌, ap}
use Rattle.noferkash.proofs.noferkash_fold.Goals as goal

pub pack-requires : goal.pack-requires
pack-requires c = let a = c.args in
    let bytes = bytes_of a.file.now (λ i. omega (arith, c.type_inv.file i)) in
    small _ _ c.fold.ensures.fact_1 (answer_fits (length a.out.now) _ a.file.now bytes)

pub returns : goal.returns
returns c = (c.pack.ensures ∙ ap packed c.fold.ensures.fact_1, c.fold.ensures.fact_2)
