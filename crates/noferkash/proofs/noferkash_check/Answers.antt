use mathlib.Core.Path.{subst, sym, ◌∙◌, ap}
use native.Mathlib.Omega.{arith}
use Rattle.event.proofs.BytesLaws.{bytes_of}
use Rattle.smf.specs.Demand3.{Demand3}
use Rattle.noferkash.proofs.PackedLaws.{small, taken_apart, verdict_fits}
use Rattle.smf.proofs.DemandLaws.{demand}
use Rattle.noferkash.specs.Packed.{packed}
use Rattle.noferkash.proofs.noferkash_check.Goals as goal

pub pack-requires : goal.pack-requires
pack-requires c =
    let s = c.args.file.now in
    let bs = bytes_of s (λ i. omega (arith, c.type_inv.file i)) in
    small _ _ c.check.ensures.fact_1 (verdict_fits s bs)

pub returns : goal.returns
returns c =
    let s = c.args.file.now in
    let bs = bytes_of s (λ i. omega (arith, c.type_inv.file i)) in
    let e = c.pack.ensures ∙ ap packed c.check.ensures.fact_1 in
    record { fact_1 = e; fact_2 = subst (Demand3 s) (sym (taken_apart _ _ e (verdict_fits s bs)).number) (demand s bs) }
