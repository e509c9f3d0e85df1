use Prim.Native.Nat.{◌-◌}
use Rattle.event.proofs.BytesLaws.{bytes_of, size_at}
use Rattle.smf.proofs.ChunkLaws.{track_bad_chunk, chunk_body, track_fault, track_whole}
use Rattle.event.specs.Refusal.{number_of}
use Rattle.smf.proofs.ToldLaws.{passed}
use native.Mathlib.Omega.{arith}
use mathlib.Core.Path.{sym, ◌∙◌}
use Rattle.smf.proofs.track.read_track.Goals as goal

pub slice_bounds-walk_track-count : goal.slice_bounds-walk_track-count
slice_bounds-walk_track-count c = let a = c.args in
    let bytes = bytes_of a.file.now (λ i. omega (arith, c.type_inv.file i)) in
    let came = sym c.in_ok-chunk.ensures in
    let there = chunk_body a.file.now a.at c.in_ok-chunk.chunk.start c.in_ok-chunk.chunk.end bytes came in
    omega (arith, there.order, there.inside)

pub slice_bounds-walk_track-start : goal.slice_bounds-walk_track-start
slice_bounds-walk_track-start c = let a = c.args in
    let bytes = bytes_of a.file.now (λ i. omega (arith, c.type_inv.file i)) in
    let came = sym c.in_ok-chunk.ensures in
    let there = chunk_body a.file.now a.at c.in_ok-chunk.chunk.start c.in_ok-chunk.chunk.end bytes came in
    omega (arith, there.order, there.inside)

pub slice_bounds-walk_track-end : goal.slice_bounds-walk_track-end
slice_bounds-walk_track-end c = let a = c.args in
    let bytes = bytes_of a.file.now (λ i. omega (arith, c.type_inv.file i)) in
    let came = sym c.in_ok-chunk.ensures in
    let there = chunk_body a.file.now a.at c.in_ok-chunk.chunk.start c.in_ok-chunk.chunk.end bytes came in
    omega (arith, there.order, there.inside)

pub walk_track-requires : goal.walk_track-requires
walk_track-requires c = let a = c.args in
    let bytes = bytes_of a.file.now (λ i. omega (arith, c.type_inv.file i)) in
    let came = sym c.in_ok-chunk.ensures in
    let there = chunk_body a.file.now a.at c.in_ok-chunk.chunk.start c.in_ok-chunk.chunk.end bytes came in
    let size = size_at a.file.now c.in_ok-chunk.chunk.start (c.in_ok-chunk.chunk.end - c.in_ok-chunk.chunk.start) (omega (arith, there.order, there.inside)) in
    record { fact_1 = omega (arith, size, there.order, there.inside); fact_2 = omega (arith, size, there.short) }

pub returns-in_err-chunk : goal.returns-in_err-chunk
returns-in_err-chunk c =
    let e = c.in_err-chunk.field-0.0 in
    passed c.from_residual.result e c.from_residual.ensures.1 ∙ track_bad_chunk c.args.file.now c.args.at (number_of e.why) e.place (sym c.in_err-chunk.ensures)

pub returns-in_err-walked : goal.returns-in_err-walked
returns-in_err-walked c =
    let a = c.args in
    let e = c.in_err-walked.field-0.0 in
    let bytes = bytes_of a.file.now (λ i. omega (arith, c.type_inv.file i)) in
    let chunk = c.in_ok-chunk.chunk in
    passed c.from_residual-in_err-walked.result e c.from_residual-in_err-walked.ensures.1
    ∙ track_fault a.file.now a.at chunk.start chunk.end bytes (sym c.in_ok-chunk.ensures) _ (number_of e.why) e.place c.in_err-walked.ensures

pub returns : goal.returns
returns c =
    let a = c.args in
    let bytes = bytes_of a.file.now (λ i. omega (arith, c.type_inv.file i)) in
    let chunk = c.in_ok-chunk.chunk in
    let w = c.in_ok-walked.walked in
    track_whole a.file.now a.at chunk.start chunk.end bytes (sym c.in_ok-chunk.ensures) w.padding w.time w.events c.in_ok-walked.ensures
