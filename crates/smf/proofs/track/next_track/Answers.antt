use Rattle.event.proofs.BytesLaws.{bytes_of}
use Rattle.smf.specs.Step.{told}
use Rattle.smf.proofs.ChunkLaws.{chunk_short, chunk_long, chunk_fine, chunk_pass}
use native.Mathlib.Omega.{arith}
use mathlib.Core.Path.{refl, sym, ◌∙◌, ap}
use Rattle.smf.proofs.track.next_track.Goals as goal

pub loop-from-init : goal.loop-from-init
loop-from-init c = refl

pub returns-then-file-lt8 : goal.returns-then-file-lt8
returns-then-file-lt8 c = ap told c.refuse.ensures ∙ chunk_short c.args.file.now c.loop-from.at (omega arith) ∙ c.loop-from.invariant

pub returns-then-file-at : goal.returns-then-file-at
returns-then-file-at c = ap told c.refuse-then-file-at.ensures ∙ chunk_short c.args.file.now c.loop-from.at (omega arith) ∙ c.loop-from.invariant

pub returns-then-file-start : goal.returns-then-file-start
returns-then-file-start c = ap told c.refuse-then-file-start.ensures ∙ chunk_long c.args.file.now c.loop-from.at (omega arith) _ refl c.big_endian-len.result c.big_endian-len.ensures c.if-file-start.true ∙ c.loop-from.invariant

pub returns-then-is_track : goal.returns-then-is_track
returns-then-is_track c = chunk_fine c.args.file.now c.loop-from.at (omega arith) c.big_endian-is_track.result c.big_endian-is_track.ensures c.big_endian-len.result c.big_endian-len.ensures (omega arith) c.if-is_track.true ∙ c.loop-from.invariant

pub loop-from-preserved : goal.loop-from-preserved
loop-from-preserved c = let s = c.args.file.now in
    sym (chunk_pass s c.loop-from.at (omega arith) c.big_endian-is_track.result c.big_endian-is_track.ensures c.big_endian-len.result c.big_endian-len.ensures (omega arith) (bytes_of s (λ i. omega (arith, c.type_inv.file i))) c.if-is_track.false) ∙ c.loop-from.invariant
