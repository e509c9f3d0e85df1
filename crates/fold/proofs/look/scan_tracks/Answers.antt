use Rattle.event.specs.Refusal.{number_of}
use Prim.Native.Nat.{suc, ◌-◌, ◌+◌}
use lib.ListN.{take, drop, length-drop}
use lib.Seq.{length-take-le}
use Rattle.event.proofs.BytesLaws.{bytes_of}
use Rattle.smf.proofs.ChunkLaws.{chunk_body}
use Rattle.smf.proofs.TurnLaws.{tracks_stop}
use Rattle.smf.specs.Walk.{walked_body, placed_of}
use Rattle.fold_piece.specs.FoldAnswer.{tracks_free}
use Rattle.smf.proofs.PlacedLaws.{track_placed}
use Rattle.fold.proofs.ScanLaws.{track_refused, track_fine, scan_none}
use native.Mathlib.Omega.{arith}
use mathlib.Core.Path.{◌≡◌, refl, sym, ◌∙◌, ap}
use Rattle.fold.specs.Code.Look.{fine, look_answer}
use Rattle.smf.specs.Code.Chain.{placed_from}
use Rattle.fold.proofs.look.scan_tracks.Goals as goal

pub loop-init : goal.loop-init
loop-init c = let a = c.args in let e : a.count - 0 ≡ a.count = omega arith in (rw e c.requires, rw e refl)

pub returns-in_default : goal.returns-in_default
returns-in_default c = let a = c.args in let l = c.loop in absurd (tracks_stop a.file.now (a.count - l.counter) l.at (number_of c.in_default.field-0.why) c.in_default.field-0.place (omega (arith, c.loop-test.true)) (sym c.in_default.ensures) l.invariant.0)

pub slice_bounds-scan_track-count : goal.slice_bounds-scan_track-count
slice_bounds-scan_track-count c = let f = c.args.file.now in let bytes = bytes_of f (λ k. omega (arith, c.type_inv.file k)) in
    let b = chunk_body f c.loop.at c.in-Ok.chunk.start c.in-Ok.chunk.end bytes (sym c.in-Ok.ensures) in omega (arith, b.order, b.inside)

pub slice_bounds-scan_track-start : goal.slice_bounds-scan_track-start
slice_bounds-scan_track-start c = let f = c.args.file.now in let bytes = bytes_of f (λ k. omega (arith, c.type_inv.file k)) in
    let b = chunk_body f c.loop.at c.in-Ok.chunk.start c.in-Ok.chunk.end bytes (sym c.in-Ok.ensures) in omega (arith, b.order, b.inside)

pub slice_bounds-scan_track-end : goal.slice_bounds-scan_track-end
slice_bounds-scan_track-end c = let f = c.args.file.now in let bytes = bytes_of f (λ k. omega (arith, c.type_inv.file k)) in
    let b = chunk_body f c.loop.at c.in-Ok.chunk.start c.in-Ok.chunk.end bytes (sym c.in-Ok.ensures) in omega (arith, b.order, b.inside)

pub scan_track-requires : goal.scan_track-requires
scan_track-requires c = let a = c.args in let l = c.loop in let f = a.file.now in let bytes = bytes_of f (λ k. omega (arith, c.type_inv.file k)) in
    let down : a.count - l.counter ≡ suc (a.count - (l.counter + 1)) = omega (arith, c.loop-test.true) in
    let m = track_placed f (a.count - l.counter) (a.count - (l.counter + 1)) l.at c.in-Ok.chunk.start c.in-Ok.chunk.end down bytes (sym c.in-Ok.ensures) l.invariant.0 in
    let size = length-take-le (c.in-Ok.chunk.end - c.in-Ok.chunk.start) (drop c.in-Ok.chunk.start f) (omega (arith, length-drop c.in-Ok.chunk.start f, m.inside, m.order)) in
    record { fact_1 = omega (arith, size, m.inside, m.order); fact_2 = m.turn.body }

pub returns-in-Some : goal.returns-in-Some
returns-in-Some c = let a = c.args in let l = c.loop in let f = a.file.now in let bytes = bytes_of f (λ k. omega (arith, c.type_inv.file k)) in
    let down : a.count - l.counter ≡ suc (a.count - (l.counter + 1)) = omega (arith, c.loop-test.true) in
    let m = track_placed f (a.count - l.counter) (a.count - (l.counter + 1)) l.at c.in-Ok.chunk.start c.in-Ok.chunk.end down bytes (sym c.in-Ok.ensures) l.invariant.0 in
    track_refused (placed_of (walked_body c.in-Ok.chunk.start (take (c.in-Ok.chunk.end - c.in-Ok.chunk.start) (drop c.in-Ok.chunk.start f)))) (placed_from f (a.count - (l.counter + 1)) c.in-Ok.chunk.end) _ c.in-Some.ensures (omega arith) ∙ ap (λ z. look_answer (tracks_free z fine)) (sym m.all) ∙ ap look_answer l.invariant.1

pub loop-preserved : goal.loop-preserved
loop-preserved c = let a = c.args in let l = c.loop in let f = a.file.now in let bytes = bytes_of f (λ k. omega (arith, c.type_inv.file k)) in
    let down : a.count - l.counter ≡ suc (a.count - (l.counter + 1)) = omega (arith, c.loop-test.true) in
    let m = track_placed f (a.count - l.counter) (a.count - (l.counter + 1)) l.at c.in-Ok.chunk.start c.in-Ok.chunk.end down bytes (sym c.in-Ok.ensures) l.invariant.0 in
    (m.turn.rest, sym (track_fine (placed_of (walked_body c.in-Ok.chunk.start (take (c.in-Ok.chunk.end - c.in-Ok.chunk.start) (drop c.in-Ok.chunk.start f)))) (placed_from f (a.count - (l.counter + 1)) c.in-Ok.chunk.end) _ c.in_default-scan_track.ensures refl) ∙ ap (λ z. tracks_free z fine) (sym m.all) ∙ l.invariant.1)

pub returns : goal.returns
returns c = let a = c.args in let l = c.loop in scan_none a.file.now (a.count - l.counter) l.at (omega (arith, c.loop-test.false)) ∙ ap look_answer l.invariant.1
