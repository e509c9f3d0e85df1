use Prim.Native.Nat.{◌+◌, ◌-◌}
use Rattle.event.specs.Refusal.{number_of}
use Rattle.event.proofs.BytesLaws.{bytes_of}
use Rattle.smf.proofs.ChunkLaws.{tracks_none, tracks_bad, tracks_next}
use Rattle.smf.proofs.ToldLaws.{passed}
use native.Mathlib.Omega.{arith}
use mathlib.Core.Path.{◌≡◌, refl, sym, ◌∙◌}
use Rattle.smf.proofs.check.read_tracks.Goals as goal

pub loop-init : goal.loop-init
loop-init c = let e : c.args.count - 0 ≡ c.args.count = omega arith in (c.requires, rw e refl)

pub returns-in_err-track : goal.returns-in_err-track
returns-in_err-track c =
    let l = c.loop in
    let e = c.in_err-track.field-0.0 in
    passed c.from_residual.result e c.from_residual.ensures.1
    ∙ sym (l.invariant.1 ∙ tracks_bad c.args.file.now (c.args.count - l.counter) l.at (number_of e.why) e.place (omega (arith, c.loop-test.true)) (sym c.in_err-track.ensures))

pub loop-preserved : goal.loop-preserved
loop-preserved c =
    let a = c.args in
    let l = c.loop in
    let r = c.in_ok-track.track in
    let bytes = bytes_of a.file.now (λ i. omega (arith, c.type_inv.file i)) in
    let t = tracks_next a.file.now (a.count - l.counter) l.at r.time r.events r.next (omega (arith, c.loop-test.true)) bytes l.invariant.0 (sym c.in_ok-track.ensures) in
    let one : a.count - l.counter - 1 ≡ a.count - (l.counter + 1) = omega arith in
    (t.1, l.invariant.1 ∙ rw one at t.0)

pub returns : goal.returns
returns c = let l = c.loop in sym (l.invariant.1 ∙ tracks_none c.args.file.now (c.args.count - l.counter) l.at (omega (arith, c.loop-test.false)) l.invariant.0)
