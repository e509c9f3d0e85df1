use Rattle.std.specs.Prelude.{Ok}
use Rattle.event.proofs.RowLaws.{row_sharps, row_flats, row_key_bad, row_minor_bad}
use native.Mathlib.Omega.{arith}
use mathlib.Core.Path.{◌∙◌, ap}
use Rattle.event.proofs.meta.key_signature.Goals as goal

pub returns-then-minor-gt1 : goal.returns-then-minor-gt1
returns-then-minor-gt1 c = let a = c.args in
    row_minor_bad a.body.now a.start c.byte_at-key.result c.byte_at-minor.result c.requires c.byte_at-key.ensures c.byte_at-minor.ensures c.if-minor-gt1.true

pub returns-in-0-to-7 : goal.returns-in-0-to-7
returns-in-0-to-7 c = let a = c.args in
    ap Ok c.silent.ensures ∙ row_sharps a.body.now a.start c.byte_at-key.result c.byte_at-minor.result c.requires c.byte_at-key.ensures c.byte_at-minor.ensures (omega arith) c.if-minor-gt1.false

pub returns-in-8-to-248 : goal.returns-in-8-to-248
returns-in-8-to-248 c = let a = c.args in
    row_key_bad a.body.now a.start c.byte_at-key.result c.byte_at-minor.result c.requires c.byte_at-key.ensures c.byte_at-minor.ensures (omega arith) (omega arith)

pub returns-in-249-to-255 : goal.returns-in-249-to-255
returns-in-249-to-255 c = let a = c.args in
    ap Ok c.silent-in-249-to-255.ensures ∙ row_flats a.body.now a.start c.byte_at-key.result c.byte_at-minor.result c.requires c.byte_at-key.ensures c.byte_at-minor.ensures (omega arith) (omega arith) c.if-minor-gt1.false
