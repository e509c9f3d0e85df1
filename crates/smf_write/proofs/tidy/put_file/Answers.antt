use Rattle.event.proofs.BytesLaws.{bytes_of, length_big_endian}
use Rattle.event_write.proofs.WriteLaws.{then}
use Rattle.event_write.specs.Head.{manner_of}
use Rattle.smf.specs.Chunk.{header_tag}
use Rattle.smf.specs.Layout.{lay_header, lay_division}
use Rattle.smf.proofs.VerdictLaws.{head_at}
use Rattle.smf.proofs.ListLaws.{accepted_readable}
use Rattle.smf.proofs.AcceptedLaws.{headed, file_accepted}
use Rattle.smf_write.proofs.FileLaws.{file_bytes}
use native.Mathlib.Omega.{arith}
use mathlib.Core.Path.{sym}
use Rattle.smf_write.proofs.tidy.put_file.Goals as goal

pub division_bits-bits-requires : goal.division_bits-bits-requires
division_bits-bits-requires c = let s = c.args.file.now in
    let bytes = bytes_of s (λ i. omega (arith, c.type_inv.file i)) in
    let came = sym c.requires.header in
    (headed s c.args.header.format c.args.header.count c.args.header.division c.args.header.next bytes came (file_accepted s c.args.header.format c.args.header.count c.args.header.division c.args.header.next bytes came c.requires.readable)).lawful

pub put_big_endian-b-requires-clause-fact_1 : goal.put_big_endian-b-requires-clause-fact_1
put_big_endian-b-requires-clause-fact_1 c = omega (arith, c.put_big_endian-a.ensures.place, length_big_endian 4 header_tag)

pub put_big_endian-c-requires-clause-fact_1 : goal.put_big_endian-c-requires-clause-fact_1
put_big_endian-c-requires-clause-fact_1 c = omega (arith, c.put_big_endian-b.ensures.place, c.put_big_endian-a.ensures.place, length_big_endian 4 header_tag, length_big_endian 4 6)

pub put_big_endian-d-requires : goal.put_big_endian-d-requires
put_big_endian-d-requires c = omega (arith, c.put_big_endian-c.ensures.place, length_big_endian 2 c.args.header.format, c.put_big_endian-b.ensures.place, c.put_big_endian-a.ensures.place, length_big_endian 4 header_tag, length_big_endian 4 6)

pub put_big_endian-e-requires : goal.put_big_endian-e-requires
put_big_endian-e-requires c = omega (arith, c.put_big_endian-d.ensures.place, length_big_endian 2 c.args.header.count, c.put_big_endian-c.ensures.place, length_big_endian 2 c.args.header.format, c.put_big_endian-b.ensures.place, c.put_big_endian-a.ensures.place, length_big_endian 4 header_tag, length_big_endian 4 6)

pub put_tracks-requires : goal.put_tracks-requires
put_tracks-requires c = let s = c.args.file.now in
    let bytes = bytes_of s (λ i. omega (arith, c.type_inv.file i)) in
    let came = sym c.requires.header in
    let there = file_accepted s c.args.header.format c.args.header.count c.args.header.division c.args.header.next bytes came c.requires.readable in
    record { fact_1 = omega (arith, c.put_big_endian-e.ensures.place, length_big_endian 2 c.division_bits-bits.result, c.put_big_endian-d.ensures.place, length_big_endian 2 c.args.header.count, c.put_big_endian-c.ensures.place, length_big_endian 2 c.args.header.format, c.put_big_endian-b.ensures.place, c.put_big_endian-a.ensures.place, length_big_endian 4 header_tag, length_big_endian 4 6); fact_2 = (head_at s c.args.header.format c.args.header.count c.args.header.division c.args.header.next bytes came).inside; fact_3 = c.requires.small; fact_4 = accepted_readable s c.args.header.count c.args.header.next there }

pub returns : goal.returns
unfolding lay_header lay_division
returns c = let a = c.args in
    let s = a.file.now in
    let bytes = bytes_of s (λ i. omega (arith, c.type_inv.file i)) in
    let came = sym c.requires.header in
    let there = file_accepted s c.args.header.format c.args.header.count c.args.header.division c.args.header.next bytes came c.requires.readable in
    rw (file_bytes (manner_of a.short) s c.args.header.format c.args.header.count c.args.header.division c.args.header.next bytes came there, ← c.division_bits-bits.ensures)
    (then c.put_big_endian-a.ensures (then c.put_big_endian-b.ensures (then c.put_big_endian-c.ensures (then c.put_big_endian-d.ensures (then c.put_big_endian-e.ensures c.put_tracks.ensures)))))
