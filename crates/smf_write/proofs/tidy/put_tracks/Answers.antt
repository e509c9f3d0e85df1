use Rattle.event.specs.Refusal.{number_of}
use Prim.Native.Nat.{suc, ◌+◌, ◌-◌}
use lib.ListN.{length-drop}
use Rattle.event.proofs.BytesLaws.{bytes_of, size_at}
use Rattle.event_write.specs.Head.{manner_of}
use Rattle.event_write.proofs.WriteLaws.{all_remains, go_on_lem, done}
use Rattle.smf.proofs.ChunkLaws.{chunk_body}
use Rattle.smf.proofs.TurnLaws.{tracks_stop, turn_track}
use Rattle.smf_write.proofs.FileLaws.{track_left, no_tracks_left, tracks_small}
use native.Mathlib.Omega.{arith}
use mathlib.Core.Path.{◌≡◌, refl, sym, ◌∙◌}
use Rattle.smf_write.proofs.tidy.put_tracks.Goals as goal

pub loop-init : goal.loop-init
loop-init c = let e : c.args.count - 0 ≡ c.args.count = omega arith in (c.requires.fact_2, refl, rw e c.requires.fact_4, rw e (all_remains _ _ _))

pub returns-in_default : goal.returns-in_default
returns-in_default c = let a = c.args in
    let s = a.file.now in
    let l = c.loop in
    let bytes = bytes_of s (λ i. omega (arith, c.type_inv.file i)) in
    absurd (tracks_stop s (a.count - l.counter) l.at (number_of c.in_default.field-0.why) c.in_default.field-0.place (omega (arith, c.loop-test.true)) (sym c.in_default.ensures) l.invariant.2)

pub slice_bounds-put_track-count : goal.slice_bounds-put_track-count
slice_bounds-put_track-count c = let a = c.args in
    let s = a.file.now in
    let l = c.loop in
    let bytes = bytes_of s (λ i. omega (arith, c.type_inv.file i)) in
    let came = sym c.in-Ok.ensures in
    let x = c.in-Ok.chunk.start in
    let y = c.in-Ok.chunk.end in
    let there = chunk_body s l.at x y bytes came in
    omega (arith, there.order, there.inside)

pub slice_bounds-put_track-start : goal.slice_bounds-put_track-start
slice_bounds-put_track-start c = let a = c.args in
    let s = a.file.now in
    let l = c.loop in
    let bytes = bytes_of s (λ i. omega (arith, c.type_inv.file i)) in
    let came = sym c.in-Ok.ensures in
    let x = c.in-Ok.chunk.start in
    let y = c.in-Ok.chunk.end in
    let there = chunk_body s l.at x y bytes came in
    omega (arith, there.order, there.inside)

pub slice_bounds-put_track-end : goal.slice_bounds-put_track-end
slice_bounds-put_track-end c = let a = c.args in
    let s = a.file.now in
    let l = c.loop in
    let bytes = bytes_of s (λ i. omega (arith, c.type_inv.file i)) in
    let came = sym c.in-Ok.ensures in
    let x = c.in-Ok.chunk.start in
    let y = c.in-Ok.chunk.end in
    let there = chunk_body s l.at x y bytes came in
    omega (arith, there.order, there.inside)

pub put_track-next-requires : goal.put_track-next-requires
put_track-next-requires c = let a = c.args in
    let s = a.file.now in
    let l = c.loop in
    let bytes = bytes_of s (λ i. omega (arith, c.type_inv.file i)) in
    let came = sym c.in-Ok.ensures in
    let x = c.in-Ok.chunk.start in
    let y = c.in-Ok.chunk.end in
    let there = chunk_body s l.at x y bytes came in
    let n : a.count - l.counter ≡ suc (a.count - (l.counter + 1)) = omega (arith, c.loop-test.true) in
    let one = turn_track s (a.count - l.counter) (a.count - (l.counter + 1)) l.at x y n bytes came l.invariant.2 in
    let size = size_at s x (y - x) (omega (arith, there.order, there.inside)) in
    record { fact_1 = omega (arith, l.invariant.3.place, tracks_small (manner_of a.short) s a.count a.first bytes c.requires.fact_4, length-drop a.first s, c.requires.fact_1, c.requires.fact_3); fact_2 = omega (arith, size, there.inside, c.requires.fact_3); fact_3 = one.body }

pub loop-preserved : goal.loop-preserved
loop-preserved c = let a = c.args in
    let s = a.file.now in
    let l = c.loop in
    let bytes = bytes_of s (λ i. omega (arith, c.type_inv.file i)) in
    let came = sym c.in-Ok.ensures in
    let x = c.in-Ok.chunk.start in
    let y = c.in-Ok.chunk.end in
    let there = chunk_body s l.at x y bytes came in
    let n : a.count - l.counter ≡ suc (a.count - (l.counter + 1)) = omega (arith, c.loop-test.true) in
    let one = turn_track s (a.count - l.counter) (a.count - (l.counter + 1)) l.at x y n bytes came l.invariant.2 in
    (there.inside, c.put_track-next.auto.out ∙ l.invariant.1, one.rest, go_on_lem _ _ _ l.invariant.3 (track_left (manner_of a.short) s (a.count - l.counter) (a.count - (l.counter + 1)) l.at x y one) c.put_track-next.ensures)

pub returns : goal.returns
returns c = let a = c.args in
    let l = c.loop in
    done _ l.invariant.3 (no_tracks_left (manner_of a.short) a.file.now (a.count - l.counter) l.at (omega (arith, c.loop-test.false)))
