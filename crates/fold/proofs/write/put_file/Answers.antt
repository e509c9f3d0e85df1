use Rattle.event.proofs.BytesLaws.{length_big_endian}
use Rattle.smf.specs.Chunk.{header_tag}
use Rattle.smf.specs.Layout.{lay_header, lay_division}
use Rattle.smf.proofs.DivisionLaws.{bits_back}
use Rattle.event_write.proofs.WriteLaws.{then}
use native.Mathlib.Omega.{arith}
use Rattle.fold.proofs.write.put_file.Goals as goal

pub put_big_endian-b-requires-clause-fact_1 : goal.put_big_endian-b-requires-clause-fact_1
unfolding lay_header lay_division
put_big_endian-b-requires-clause-fact_1 c = omega (arith, c.put_big_endian-a.ensures.place, length_big_endian 4 header_tag)

pub put_big_endian-c-requires-clause-fact_1 : goal.put_big_endian-c-requires-clause-fact_1
unfolding lay_header lay_division
put_big_endian-c-requires-clause-fact_1 c = omega (arith, c.put_big_endian-b.ensures.place, c.put_big_endian-a.ensures.place, length_big_endian 4 header_tag, length_big_endian 4 6)

pub put_big_endian-d-requires-clause-fact_1 : goal.put_big_endian-d-requires-clause-fact_1
unfolding lay_header lay_division
put_big_endian-d-requires-clause-fact_1 c = omega (arith, c.put_big_endian-c.ensures.place, c.put_big_endian-b.ensures.place, c.put_big_endian-a.ensures.place, length_big_endian 4 header_tag, length_big_endian 4 6, length_big_endian 2 0)

pub put_big_endian-e-requires-clause-fact_1 : goal.put_big_endian-e-requires-clause-fact_1
unfolding lay_header lay_division
put_big_endian-e-requires-clause-fact_1 c = omega (arith, c.put_big_endian-d.ensures.place, c.put_big_endian-c.ensures.place, c.put_big_endian-b.ensures.place, c.put_big_endian-a.ensures.place, length_big_endian 4 header_tag, length_big_endian 4 6, length_big_endian 2 0, length_big_endian 2 1)

pub put_track-requires : goal.put_track-requires
unfolding lay_header lay_division
put_track-requires c = record { fact_1 = omega (arith, c.put_big_endian-e.ensures.place, c.put_big_endian-d.ensures.place, c.put_big_endian-c.ensures.place, c.put_big_endian-b.ensures.place, c.put_big_endian-a.ensures.place, length_big_endian 4 header_tag, length_big_endian 4 6, length_big_endian 2 0, length_big_endian 2 1, length_big_endian 2 c.args.bits); fact_2 = c.requires.fact_2; fact_3 = c.requires.fact_3; fact_4 = c.requires.fact_4 }

pub returns : goal.returns
unfolding lay_header lay_division
returns c = rw (bits_back c.args.bits (omega (arith, c.requires.fact_1))) (record { fact_1 = then c.put_big_endian-a.ensures (then c.put_big_endian-b.ensures (then c.put_big_endian-c.ensures (then c.put_big_endian-d.ensures (then c.put_big_endian-e.ensures c.put_track.ensures.fact_1)))); fact_2 = c.put_track.ensures.fact_2; fact_3 = c.put_track.ensures.fact_3; fact_4 = c.put_track.ensures.fact_4 })
