use Rattle.std.specs.Prelude.{Ok}
use Rattle.event.proofs.RowLaws.{row_offset_lem, row_offset_bad}
use mathlib.Core.Path.{◌∙◌, ap}
use Rattle.event.proofs.meta.smpte_offset.Goals as goal

pub returns-then-part-gt99 : goal.returns-then-part-gt99
returns-then-part-gt99 c = let a = c.args in
    row_offset_bad a.body.now a.start c.byte_at-part.result c.requires c.byte_at-part.ensures c.if-part-gt99.true

pub returns : goal.returns
returns c = let a = c.args in
    ap Ok c.silent.ensures ∙ row_offset_lem a.body.now a.start c.byte_at-hour.result c.byte_at-minute.result c.byte_at-second.result c.byte_at-frame.result c.byte_at-part.result c.requires
    c.byte_at-hour.ensures c.byte_at-minute.ensures c.byte_at-second.ensures c.byte_at-frame.ensures c.byte_at-part.ensures c.if-part-gt99.false
