use Rattle.event.specs.Refusal.{number_of}
use Rattle.midicsv.proofs.BoundLaws.{most_few}
use Rattle.midicsv.specs.Code.Form.{form_of}
use Prim.Native.Nat.{suc, ◌+◌, ◌-◌}
use lib.ListN.{length, drop, length-drop}
use native.Mathlib.Numerals.{add-one}
use Rattle.event.proofs.BytesLaws.{bytes_of, size_at}
use Rattle.event_write.proofs.WriteLaws.{all_remains, go_on_lem, done}
use Rattle.smf.proofs.ChunkLaws.{chunk_body}
use Rattle.smf.proofs.TurnLaws.{tracks_stop, turn_track}
use Rattle.midicsv_write.proofs.TextLaws.{track_left, no_tracks_left, tracks_few}
use mathlib.Core.Path.{◌≡◌, refl, sym, ◌∙◌}
use native.Mathlib.Omega.{arith}
use Rattle.midicsv_write.proofs.to_text.put_tracks.Goals as goal

pub loop-track-init : goal.loop-track-init
loop-track-init c = let a = c.args in (refl, record { left = a.count; numbered = add-one a.count; inside = c.requires.fact_2; readable = c.requires.fact_5; remains = all_remains _ _ _ })

pub returns-in_default : goal.returns-in_default
returns-in_default c =
    let a = c.args in
    let s = a.file.now in
    let l = c.loop-track in
    let bytes = bytes_of s (λ i. omega (arith, c.type_inv.file i)) in
    let i = l.invariant.1 in
    absurd (tracks_stop s i.left l.at (number_of c.in_default.field-0.why) c.in_default.field-0.place (omega (arith, i.numbered, c.loop-track-test.true)) (sym c.in_default.ensures) i.readable)

pub slice_bounds-put_track-count : goal.slice_bounds-put_track-count
slice_bounds-put_track-count c =
    let a = c.args in
    let s = a.file.now in
    let l = c.loop-track in
    let bytes = bytes_of s (λ i. omega (arith, c.type_inv.file i)) in
    let came = sym c.in-Ok.ensures in
    let x = c.in-Ok.chunk.start in
    let y = c.in-Ok.chunk.end in
    let there = chunk_body s l.at x y bytes came in
    omega (arith, there.order, there.inside)

pub slice_bounds-put_track-start : goal.slice_bounds-put_track-start
slice_bounds-put_track-start c =
    let a = c.args in
    let s = a.file.now in
    let l = c.loop-track in
    let bytes = bytes_of s (λ i. omega (arith, c.type_inv.file i)) in
    let came = sym c.in-Ok.ensures in
    let x = c.in-Ok.chunk.start in
    let y = c.in-Ok.chunk.end in
    let there = chunk_body s l.at x y bytes came in
    omega (arith, there.order, there.inside)

pub slice_bounds-put_track-end : goal.slice_bounds-put_track-end
slice_bounds-put_track-end c =
    let a = c.args in
    let s = a.file.now in
    let l = c.loop-track in
    let bytes = bytes_of s (λ i. omega (arith, c.type_inv.file i)) in
    let came = sym c.in-Ok.ensures in
    let x = c.in-Ok.chunk.start in
    let y = c.in-Ok.chunk.end in
    let there = chunk_body s l.at x y bytes came in
    omega (arith, there.order, there.inside)

pub put_track-next-requires : goal.put_track-next-requires
put_track-next-requires c =
    let a = c.args in
    let s = a.file.now in
    let l = c.loop-track in
    let bytes = bytes_of s (λ i. omega (arith, c.type_inv.file i)) in
    let came = sym c.in-Ok.ensures in
    let x = c.in-Ok.chunk.start in
    let y = c.in-Ok.chunk.end in
    let there = chunk_body s l.at x y bytes came in
    let i = l.invariant.1 in
    let n : i.left ≡ suc (i.left - 1) = omega (arith, i.numbered, c.loop-track-test.true) in
    let one = turn_track s i.left (i.left - 1) l.at x y n bytes came i.readable in
    let size = size_at s x (y - x) (omega (arith, there.order, there.inside)) in
    record { fact_1 = omega (arith, i.remains.place, tracks_few (form_of a.sheet) 1 s a.count a.first (omega (arith, c.requires.fact_4)) bytes c.requires.fact_5, most_few (form_of a.sheet) (length (drop a.first s)), length-drop a.first s, c.requires.fact_1, c.requires.fact_3); fact_2 = omega (arith, size, there.inside, c.requires.fact_3); fact_3 = omega (arith, c.loop-track-test.true, c.requires.fact_4); fact_4 = one.body }

pub loop-track-smaller : goal.loop-track-smaller
loop-track-smaller c = omega (arith, c.loop-track-test.true)

pub loop-track-preserved : goal.loop-track-preserved
loop-track-preserved c =
    let a = c.args in
    let s = a.file.now in
    let l = c.loop-track in
    let bytes = bytes_of s (λ i. omega (arith, c.type_inv.file i)) in
    let came = sym c.in-Ok.ensures in
    let x = c.in-Ok.chunk.start in
    let y = c.in-Ok.chunk.end in
    let there = chunk_body s l.at x y bytes came in
    let i = l.invariant.1 in
    let n : i.left ≡ suc (i.left - 1) = omega (arith, i.numbered, c.loop-track-test.true) in
    let one = turn_track s i.left (i.left - 1) l.at x y n bytes came i.readable in
    let to = track_left (form_of a.sheet) l.track s i.left (i.left - 1) l.at x y one in
    (c.put_track-next.auto.out ∙ l.invariant.0, record { left = i.left - 1; numbered = omega (arith, i.numbered, n); inside = there.inside; readable = one.rest; remains = go_on_lem _ _ _ i.remains to c.put_track-next.ensures })

pub returns : goal.returns
returns c = let a = c.args in let l = c.loop-track in let i = l.invariant.1 in done _ i.remains (no_tracks_left (form_of a.sheet) l.track a.file.now i.left l.at (omega (arith, i.numbered, c.loop-track-test.false)))

pub returns-in-Ok : goal.returns-in-Ok
returns-in-Ok c =
    let a = c.args in
    let s = a.file.now in
    let l = c.loop-track in
    let bytes = bytes_of s (λ i. omega (arith, c.type_inv.file i)) in
    let came = sym c.in-Ok.ensures in
    let x = c.in-Ok.chunk.start in
    let y = c.in-Ok.chunk.end in
    let i = l.invariant.1 in
    let n : i.left ≡ suc (i.left - 1) = omega (arith, i.numbered, c.loop-track-test.true) in
    let one = turn_track s i.left (i.left - 1) l.at x y n bytes came i.readable in
    let to = track_left (form_of a.sheet) l.track s i.left (i.left - 1) l.at x y one in
    let gone = go_on_lem _ _ _ i.remains to c.put_track-next.ensures in
    done _ gone (no_tracks_left (form_of a.sheet) (l.track + 1) s (i.left - 1) y (omega (arith, i.numbered, n)))
