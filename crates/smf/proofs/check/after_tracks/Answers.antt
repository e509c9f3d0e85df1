use Rattle.event.proofs.BytesLaws.{bytes_of}
use Rattle.smf.specs.Answer.{answered}
use Rattle.smf.proofs.VerdictLaws.{behind_end, behind_few, behind_track, behind_long, behind_pass}
use native.Mathlib.Omega.{arith}
use mathlib.Core.Path.{refl, sym, ◌∙◌, ap}
use Rattle.smf.proofs.check.after_tracks.Goals as goal

pub loop-at-init : goal.loop-at-init
loop-at-init c = refl

pub returns-then-file-at-lt8 : goal.returns-then-file-at-lt8
returns-then-file-at-lt8 c = ap answered c.refuse.ensures ∙ behind_few c.args.file.now c.loop-at.at c.loop-at-test.true (omega arith) ∙ c.loop-at.invariant

pub returns-then-is_track : goal.returns-then-is_track
returns-then-is_track c = ap answered c.refuse-then-is_track.ensures ∙ behind_track c.args.file.now c.loop-at.at c.loop-at-test.true (omega arith) c.big_endian-is_track.result c.big_endian-is_track.ensures c.if-is_track.true ∙ c.loop-at.invariant

pub returns-then-file-start : goal.returns-then-file-start
returns-then-file-start c = ap answered c.refuse-then-file-start.ensures ∙ behind_long c.args.file.now c.loop-at.at c.loop-at-test.true (omega arith) c.big_endian-is_track.result c.big_endian-is_track.ensures c.if-is_track.false c.big_endian-len.result c.big_endian-len.ensures c.if-file-start.true ∙ c.loop-at.invariant

pub loop-at-preserved : goal.loop-at-preserved
loop-at-preserved c = let s = c.args.file.now in
    sym (behind_pass s c.loop-at.at c.loop-at-test.true (omega arith) c.big_endian-is_track.result c.big_endian-is_track.ensures c.if-is_track.false c.big_endian-len.result c.big_endian-len.ensures (bytes_of s (λ i. omega (arith, c.type_inv.file i))) (omega arith)) ∙ c.loop-at.invariant

pub returns : goal.returns
returns c = behind_end c.args.file.now c.loop-at.at c.loop-at-test.false ∙ c.loop-at.invariant
