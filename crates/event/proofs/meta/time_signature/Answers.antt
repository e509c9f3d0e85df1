use Rattle.std.specs.Prelude.{Ok}
use Rattle.event.proofs.RowLaws.{row_time_lem}
use mathlib.Core.Path.{◌∙◌, ap}
use Rattle.event.proofs.meta.time_signature.Goals as goal

pub returns : goal.returns
returns c = let a = c.args in
    ap Ok c.silent.ensures ∙ row_time_lem a.body.now a.start c.byte_at.result c.byte_at-2.result c.byte_at-3.result c.byte_at-4.result c.requires
    c.byte_at.ensures c.byte_at-2.ensures c.byte_at-3.ensures c.byte_at-4.ensures
