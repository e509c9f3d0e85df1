use Rattle.midicsv.specs.Code.Form.{form_of}
use Rattle.midicsv.proofs.BoundLaws.{most_few}
use mathlib.Core.Path.{sym}
use lib.ListN.{length, drop, length-drop}
use Rattle.event.proofs.BytesLaws.{bytes_of}
use Rattle.event_write.proofs.WriteLaws.{then}
use Rattle.smf.specs.Step.{division_from}
use Rattle.smf.proofs.DivisionLaws.{division_fits}
use Rattle.smf.proofs.VerdictLaws.{head_at}
use Rattle.smf.proofs.ListLaws.{accepted_readable}
use Rattle.smf.proofs.AcceptedLaws.{headed, file_accepted}
use Rattle.midicsv_write.proofs.LineLaws.{header_line_length}
use Rattle.midicsv_write.proofs.TextLaws.{tracks_few, text_lines, tracks_counted}
use native.Mathlib.Omega.{arith}
use Rattle.midicsv_write.proofs.to_text.put_text.Goals as goal

pub division_bits-bits-requires : goal.division_bits-bits-requires
division_bits-bits-requires c =
    let s = c.args.file.now in
    let bytes = bytes_of s (λ i. omega (arith, c.type_inv.file i)) in
    let came = sym c.requires.header in
    let there = file_accepted s c.args.header.format c.args.header.count c.args.header.division c.args.header.next bytes came c.requires.readable in
    (headed s c.args.header.format c.args.header.count c.args.header.division c.args.header.next bytes came there).lawful

pub put_header_line-p-requires : goal.put_header_line-p-requires
put_header_line-p-requires c =
    let s = c.args.file.now in
    let bytes = bytes_of s (λ i. omega (arith, c.type_inv.file i)) in
    let came = sym c.requires.header in
    let there = file_accepted s c.args.header.format c.args.header.count c.args.header.division c.args.header.next bytes came c.requires.readable in
    let lawful = (headed s c.args.header.format c.args.header.count c.args.header.division c.args.header.next bytes came there).lawful in
    omega (arith, c.division_bits-bits.ensures, division_fits (division_from c.args.header.division) lawful)

pub put_tracks-q-requires : goal.put_tracks-q-requires
put_tracks-q-requires c =
    let s = c.args.file.now in
    let w = form_of c.args.sheet in
    let bytes = bytes_of s (λ i. omega (arith, c.type_inv.file i)) in
    let came = sym c.requires.header in
    let x = c.args.header.format in
    let b = c.args.header.count in
    let d = c.args.header.division in
    let n = c.args.header.next in
    let there = file_accepted s x b d n bytes came c.requires.readable in
    record { fact_1 = omega (arith, c.put_header_line-p.ensures.place, header_line_length w x b c.division_bits-bits.result); fact_2 = (head_at s x b d n bytes came).inside; fact_3 = c.requires.small; fact_4 = tracks_counted s b n bytes there; fact_5 = accepted_readable s b n there }

pub put_end_line-requires : goal.put_end_line-requires
put_end_line-requires c =
    let s = c.args.file.now in
    let w = form_of c.args.sheet in
    let bytes = bytes_of s (λ i. omega (arith, c.type_inv.file i)) in
    let came = sym c.requires.header in
    let x = c.args.header.format in
    let b = c.args.header.count in
    let d = c.args.header.division in
    let n = c.args.header.next in
    let there = file_accepted s x b d n bytes came c.requires.readable in
    omega (arith, c.put_tracks-q.ensures.place, c.put_header_line-p.ensures.place, header_line_length w x b c.division_bits-bits.result, tracks_few w 1 s b n (omega (arith, tracks_counted s b n bytes there)) bytes (accepted_readable s b n there), most_few w (length (drop n s)), length-drop n s, c.requires.small)

pub returns : goal.returns
returns c =
    let s = c.args.file.now in
    let w = form_of c.args.sheet in
    let bytes = bytes_of s (λ i. omega (arith, c.type_inv.file i)) in
    let came = sym c.requires.header in
    let x = c.args.header.format in
    let b = c.args.header.count in
    let d = c.args.header.division in
    let n = c.args.header.next in
    let there = file_accepted s x b d n bytes came c.requires.readable in
    rw (text_lines w s x b d n bytes came there, ← c.division_bits-bits.ensures) (then c.put_header_line-p.ensures (then c.put_tracks-q.ensures c.put_end_line.ensures))
