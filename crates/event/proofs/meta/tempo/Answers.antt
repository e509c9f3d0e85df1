use Rattle.std.specs.Prelude.{Ok}
use Rattle.event.proofs.RowLaws.{row_tempo, row_tempo_bad}
use mathlib.Core.Path.{◌∙◌, ap}
use Rattle.event.proofs.meta.tempo.Goals as goal

pub returns-then-micros-eq0 : goal.returns-then-micros-eq0
returns-then-micros-eq0 c = row_tempo_bad c.args.body.now c.args.start c.big_endian-micros.result c.requires c.big_endian-micros.ensures c.if-micros-eq0.true

pub returns : goal.returns
returns c = ap Ok c.silent.ensures ∙ row_tempo c.args.body.now c.args.start c.big_endian-micros.result c.requires c.big_endian-micros.ensures c.if-micros-eq0.false
