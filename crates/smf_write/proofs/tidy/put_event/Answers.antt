use Rattle.event.specs.Step.{data_at}
use Rattle.event_write.specs.Head.{manner_of}
use Rattle.event_write.proofs.WriteLaws.{then}
use Rattle.event_write.proofs.DataLaws.{data_in, data_length, head_length}
use native.Mathlib.Omega.{arith}
use mathlib.Core.Path.{◌∙◌, ap}
use Rattle.smf_write.proofs.tidy.put_event.Goals as goal

pub put_data-requires : goal.put_data-requires
put_data-requires c = let a = c.args in
    let d = c.data_place-place.result in
    record { fact_1 = omega (arith, c.put_head-p.ensures.place, head_length (manner_of a.short) a.force a.delta.0 a.kind, c.requires.fact_1); fact_2 = rw c.event_data.ensures (omega (arith, data_length a.body.now d.start d.len, c.requires.fact_2)) }

pub returns : goal.returns
returns c = let a = c.args in
    let d = c.data_place-place in
    let same = c.event_data.ensures ∙ ap (λ z. data_at a.body.now z.start z.len) d.ensures ∙ data_in a.body.now a.kind in
    then c.put_head-p.ensures (rw same at c.put_data.ensures)
