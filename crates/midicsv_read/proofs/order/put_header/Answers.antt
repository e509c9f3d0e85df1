use mathlib.Core.List.{append-nil}
use Rattle.event.specs.Bytes.{big_endian}
use Rattle.event.proofs.BytesLaws.{length_big_endian}
use Rattle.event_write.proofs.WriteLaws.{then}
use Rattle.smf.specs.Chunk.{header_tag}
use Rattle.smf.specs.Layout.{lay_header, lay_division}
use Rattle.smf.proofs.DivisionLaws.{bits_back, division_small}
use native.Mathlib.Omega.{arith}
use Rattle.midicsv_read.proofs.order.put_header.Goals as goal

pub put_big_endian-b-requires-clause-fact_1 : goal.put_big_endian-b-requires-clause-fact_1
put_big_endian-b-requires-clause-fact_1 c = omega (arith, c.put_big_endian-a.ensures.place, length_big_endian 4 header_tag)

pub put_big_endian-c-requires-clause-fact_1 : goal.put_big_endian-c-requires-clause-fact_1
put_big_endian-c-requires-clause-fact_1 c = omega (arith, c.put_big_endian-b.ensures.place, c.put_big_endian-a.ensures.place, length_big_endian 4 header_tag, length_big_endian 4 6)

pub put_big_endian-d-requires-clause-fact_1 : goal.put_big_endian-d-requires-clause-fact_1
put_big_endian-d-requires-clause-fact_1 c = let a = c.args in
    omega (arith, c.put_big_endian-c.ensures.place, length_big_endian 2 a.format, c.put_big_endian-b.ensures.place, c.put_big_endian-a.ensures.place, length_big_endian 4 header_tag, length_big_endian 4 6)

pub put_big_endian-requires-clause-fact_1 : goal.put_big_endian-requires-clause-fact_1
put_big_endian-requires-clause-fact_1 c = let a = c.args in
    omega (arith, c.put_big_endian-d.ensures.place, length_big_endian 2 a.count, c.put_big_endian-c.ensures.place, length_big_endian 2 a.format, c.put_big_endian-b.ensures.place, c.put_big_endian-a.ensures.place, length_big_endian 4 header_tag, length_big_endian 4 6)

pub returns : goal.returns
unfolding lay_header lay_division
returns c = let n = c.args.bits in
    let h = c.requires.fact_2 in
    rw (bits_back n (division_small n h), append-nil (big_endian 2 n))
    (then c.put_big_endian-a.ensures (then c.put_big_endian-b.ensures (then c.put_big_endian-c.ensures (then c.put_big_endian-d.ensures c.put_big_endian.ensures))))
