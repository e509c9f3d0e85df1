use Rattle.event.specs.Refusal.{number_of}
use Rattle.event.proofs.BytesLaws.{bytes_of}
use Rattle.smf.specs.Answer.{answered}
use Rattle.smf.specs.Step.{HeaderOf}
use Rattle.smf.proofs.ToldLaws.{answered_passed, no_header}
use Rattle.smf.proofs.VerdictLaws.{head_at, file_long, file_head, file_tracks, file_behind}
use native.Mathlib.Omega.{arith}
use mathlib.Core.Path.{sym, ◌∙◌, ap}
use Rattle.smf.proofs.check.read_file.Goals as goal

pub returns-then-file-gt-FILE_LIMIT : goal.returns-then-file-gt-FILE_LIMIT
unfolding HeaderOf
returns-then-file-gt-FILE_LIMIT c = record { verdict = ap answered c.refuse.ensures ∙ file_long c.args.file.now c.if-file-gt-FILE_LIMIT.true; header = rw c.refuse.ensures tt }

pub returns-in_err-header : goal.returns-in_err-header
returns-in_err-header c =
    let e = c.in_err-header.field-0.0 in
    let r = c.from_residual.result in
    let how = c.from_residual.ensures.1 in
    record {
      verdict = answered_passed r e how ∙ file_head c.args.file.now c.if-file-gt-FILE_LIMIT.false (number_of e.why) e.place (sym c.in_err-header.ensures);
      header = no_header c.args.file.now r e how;
    }

pub read_tracks-requires : goal.read_tracks-requires
read_tracks-requires c =
    let s = c.args.file.now in
    let h = c.in_ok-header.header in
    let bytes = bytes_of s (λ i. omega (arith, c.type_inv.file i)) in
    (head_at s h.format h.count h.division h.next bytes (sym c.in_ok-header.ensures)).inside

pub returns-in_err-end : goal.returns-in_err-end
returns-in_err-end c =
    let s = c.args.file.now in
    let h = c.in_ok-header.header in
    let e = c.in_err-end.field-0.0 in
    let r = c.from_residual-in_err-end.result in
    let how = c.from_residual-in_err-end.ensures.1 in
    let bytes = bytes_of s (λ i. omega (arith, c.type_inv.file i)) in
    record {
      verdict =
          answered_passed r e how
          ∙ file_tracks s c.if-file-gt-FILE_LIMIT.false bytes h.format h.count h.division h.next (sym c.in_ok-header.ensures) (number_of e.why) e.place (sym c.in_err-end.ensures);
      header = no_header s r e how;
    }

pub returns-in_err-after_tracks : goal.returns-in_err-after_tracks
returns-in_err-after_tracks c =
    let s = c.args.file.now in
    let h = c.in_ok-header.header in
    let e = c.in_err-after_tracks.field-0.0 in
    let r = c.from_residual-in_err-after_tracks.result in
    let how = c.from_residual-in_err-after_tracks.ensures.1 in
    let bytes = bytes_of s (λ i. omega (arith, c.type_inv.file i)) in
    record {
      verdict =
          answered_passed r e how ∙ c.in_err-after_tracks.ensures
          ∙ file_behind s c.if-file-gt-FILE_LIMIT.false bytes h.format h.count h.division h.next (sym c.in_ok-header.ensures) c.in_ok-end.end (sym c.in_ok-end.ensures);
      header = no_header s r e how;
    }

pub returns : goal.returns
unfolding HeaderOf
returns c =
    let s = c.args.file.now in
    let h = c.in_ok-header.header in
    let bytes = bytes_of s (λ i. omega (arith, c.type_inv.file i)) in
    record {
      verdict = c.in_ok-after_tracks.ensures ∙ file_behind s c.if-file-gt-FILE_LIMIT.false bytes h.format h.count h.division h.next (sym c.in_ok-header.ensures) c.in_ok-end.end (sym c.in_ok-end.ensures);
      header = c.in_ok-header.ensures;
    }
