use Rattle.event.proofs.BytesLaws.{bytes_of}
use Rattle.smf.proofs.TurnLaws.{turn_stop}
use Rattle.fold.proofs.ScanLaws.{scan_first, scan_found, scan_ended, scan_next}
use native.Mathlib.Omega.{arith}
use mathlib.Core.Path.{sym, ◌∙◌, refl}
use Rattle.fold.proofs.look.scan_track.Goals as goal

pub loop-read-init : goal.loop-read-init
loop-read-init c = rw c.start-cursor.ensures (omega arith, scan_first _ _ c.requires.fact_2)

pub returns-in_default : goal.returns-in_default
returns-in_default c = let a = c.args in let l = c.loop-read in
    let bytes = bytes_of a.body.now (λ k. omega (arith, c.type_inv.body k)) in
    absurd (turn_stop a.body.now l.cursor.place l.cursor.time.0 l.cursor.status bytes c.in_default.ensures refl l.invariant.1.readable)

pub returns-then-is_prefix_or_port : goal.returns-then-is_prefix_or_port
returns-then-is_prefix_or_port c = let a = c.args in let l = c.loop-read in
    let bytes = bytes_of a.body.now (λ k. omega (arith, c.type_inv.body k)) in
    scan_found l.invariant.1 bytes l.invariant.0 (sym c.in-Ok.ensures) (sym c.is_prefix_or_port.ensures ∙ c.if-is_prefix_or_port.true)

pub returns-then-is_end : goal.returns-then-is_end
returns-then-is_end c = let a = c.args in let l = c.loop-read in
    let bytes = bytes_of a.body.now (λ k. omega (arith, c.type_inv.body k)) in
    scan_ended l.invariant.1 bytes l.invariant.0 (sym c.in-Ok.ensures) (sym c.is_prefix_or_port.ensures ∙ c.if-is_prefix_or_port.false) (sym c.is_end.ensures ∙ c.if-is_end.true)

pub loop-read-smaller : goal.loop-read-smaller
loop-read-smaller c = let a = c.args in let l = c.loop-read in
    let bytes = bytes_of a.body.now (λ k. omega (arith, c.type_inv.body k)) in
    let n = scan_next l.invariant.1 bytes l.invariant.0 (sym c.in-Ok.ensures) (sym c.is_prefix_or_port.ensures ∙ c.if-is_prefix_or_port.false) (sym c.is_end.ensures ∙ c.if-is_end.false) in
    omega (arith, n.0, n.1)

pub loop-read-preserved : goal.loop-read-preserved
loop-read-preserved c = let a = c.args in let l = c.loop-read in
    let bytes = bytes_of a.body.now (λ k. omega (arith, c.type_inv.body k)) in
    let n = scan_next l.invariant.1 bytes l.invariant.0 (sym c.in-Ok.ensures) (sym c.is_prefix_or_port.ensures ∙ c.if-is_prefix_or_port.false) (sym c.is_end.ensures ∙ c.if-is_end.false) in
    (n.1, n.2)
