use lib.ListN.{length}
use lib.Seq.{length-take-le}
use mathlib.Core.Path.{sym}
use native.Mathlib.Omega.{arith}
use Rattle.midi2csv_io.proofs.ProgramLaws.{program_within}
use Rattle.midi2csv_io.proofs.convert_file.Goals as goal

pub slice_bounds-write_all-end : goal.slice_bounds-write_all-end
slice_bounds-write_all-end g c =
    let within = program_within (length c.args.room.now) c.args.file.now _ c.limited_text-answer.ensures.answer c.if-answer-eq0.true in
    omega (arith, within, c.limited_text-answer.auto.room)

pub slice_bounds-write_all-end-then-answer-eq0 : goal.slice_bounds-write_all-end-then-answer-eq0
slice_bounds-write_all-end-then-answer-eq0 g c =
    let within = program_within (length c.args.room.now) c.args.file.now _ c.limited_text-answer.ensures.answer c.if-answer-eq0.true in
    sym (length-take-le _ _ (omega (arith, within, c.limited_text-answer.auto.room)))
