use Rattle.event.proofs.BytesLaws.{bytes_of, length_big_endian}
use Rattle.event_write.specs.Head.{manner_of}
use Rattle.smf.specs.Chunk.{track_tag}
use Rattle.smf.specs.Layout.{lay_chunk, lay_track}
use Rattle.smf_write.proofs.TidyLaws.{Left, left_small}
use Rattle.smf_write.proofs.FileLaws.{track_written}
use native.Mathlib.Omega.{arith}
use Rattle.smf_write.proofs.tidy.put_track.Goals as goal

pub put_big_endian-q-requires-clause-fact_1 : goal.put_big_endian-q-requires-clause-fact_1
put_big_endian-q-requires-clause-fact_1 c = omega (arith, c.put_big_endian-p.ensures.place, length_big_endian 4 track_tag, c.requires.fact_1)

pub put_events-end-requires : goal.put_events-end-requires
put_events-end-requires c = record { fact_1 = omega (arith, c.put_big_endian-q.ensures.place, c.put_big_endian-p.ensures.place, length_big_endian 4 track_tag, length_big_endian 4 0, c.requires.fact_1); fact_2 = c.requires.fact_2; fact_3 = c.requires.fact_3 }

pub overflow_cast-size : goal.overflow_cast-size
overflow_cast-size c = let a = c.args in
    let bytes = bytes_of a.body.now (λ i. omega (arith, c.type_inv.body i)) in
    omega (arith, c.put_events-end.ensures.place, left_small (manner_of a.short) a.body.now 0 0 0 bytes c.requires.fact_3, c.requires.fact_2)

pub put_big_endian-requires-clause-fact_1 : goal.put_big_endian-requires-clause-fact_1
put_big_endian-requires-clause-fact_1 c = omega (arith, c.put_big_endian-p.ensures.place, length_big_endian 4 track_tag, c.requires.fact_1)

pub returns : goal.returns
unfolding lay_track lay_chunk
returns c = let a = c.args in
    track_written (Left (manner_of a.short) a.body.now 0 0 0) c.put_big_endian-p.ensures c.put_big_endian-q.ensures c.put_events-end.ensures c.put_big_endian.ensures
