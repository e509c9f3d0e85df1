use mathlib.Core.Path.{refl, ◌∙◌, ap}
use lib.ListN.{length}
use Rattle.event.proofs.BytesLaws.{bytes_of}
use Rattle.smf.proofs.ListAnswerLaws.{told_by, list_fits}
use Rattle.noferkash.specs.Packed.{packed}
use Rattle.noferkash.proofs.PackedLaws.{small, taken_apart}
use native.Mathlib.Omega.{arith}
use Rattle.noferkash.proofs.noferkash_list_tracks.Goals as goal

pub pack-requires : goal.pack-requires
pack-requires c =
    let s = c.args.file.now in
    let bytes = bytes_of s (λ i. omega (arith, c.type_inv.file i)) in
    small _ _ c.list_tracks.ensures.fact_1 (list_fits _ _ _ s bytes)

pub returns : goal.returns
returns c =
    let a = c.args in
    let s = a.file.now in
    let n = length a.ends.now in
    let m = length a.counts.now in
    let o = length a.padding.now in
    let bytes = bytes_of s (λ i. omega (arith, c.type_inv.file i)) in
    let third = c.list_tracks.ensures.fact_4 in
    let e = c.pack.ensures ∙ ap packed c.list_tracks.ensures.fact_1 in
    let says = taken_apart _ _ e (list_fits n m o s bytes) in
    record { fact_1 = (e, c.list_tracks.ensures.fact_2, c.list_tracks.ensures.fact_3, third); fact_2 = rw (says.number, says.length) (told_by s bytes n m o a.padding.now _ _ refl third) }
