use Rattle.event.proofs.BytesLaws.{bytes_of, length_big_endian}
use lib.ListN.{length-drop}
use Rattle.smf.specs.Chunk.{track_tag}
use Rattle.smf.specs.Layout.{lay_chunk, lay_track}
use Rattle.smf_write.proofs.FileLaws.{track_written}
use Rattle.fold.proofs.MergeLaws.{Whole, whole_small}
use native.Mathlib.Omega.{arith}
use Rattle.fold.proofs.write.put_track.Goals as goal

pub put_big_endian-q-requires-clause-fact_1 : goal.put_big_endian-q-requires-clause-fact_1
unfolding lay_track
put_big_endian-q-requires-clause-fact_1 c = omega (arith, c.put_big_endian-p.ensures.place, length_big_endian 4 track_tag, c.requires.fact_1)

pub merge-end-requires : goal.merge-end-requires
unfolding lay_track
merge-end-requires c = record { fact_1 = omega (arith, c.put_big_endian-q.ensures.place, c.put_big_endian-p.ensures.place, length_big_endian 4 track_tag, length_big_endian 4 0, c.requires.fact_1); fact_2 = c.requires.fact_2; fact_3 = c.requires.fact_3; fact_4 = c.requires.fact_4 }

pub overflow_cast-size : goal.overflow_cast-size
unfolding lay_track
overflow_cast-size c = let a = c.args in let bytes = bytes_of a.file.now (λ k. omega (arith, c.type_inv.file k)) in
    omega (arith, c.merge-end.ensures.fact_1.place, whole_small a.file.now a.count a.first bytes c.requires.fact_3, length-drop a.first a.file.now, c.requires.fact_2)

pub put_big_endian-requires-clause-fact_1 : goal.put_big_endian-requires-clause-fact_1
unfolding lay_track
put_big_endian-requires-clause-fact_1 c = omega (arith, c.put_big_endian-p.ensures.place, length_big_endian 4 track_tag, c.requires.fact_1)

pub returns : goal.returns
unfolding lay_track lay_chunk
returns c = let a = c.args in record { fact_1 = track_written (Whole a.file.now a.count a.first) c.put_big_endian-p.ensures c.put_big_endian-q.ensures c.merge-end.ensures.fact_1 c.put_big_endian.ensures; fact_2 = c.merge-end.ensures.fact_2; fact_3 = c.merge-end.ensures.fact_3; fact_4 = c.merge-end.ensures.fact_4 }
