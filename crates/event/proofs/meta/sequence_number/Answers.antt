use Rattle.std.specs.Prelude.{Ok}
use Rattle.event.proofs.RowLaws.{row_sequence}
use mathlib.Core.Path.{◌∙◌, ap}
use Rattle.event.proofs.meta.sequence_number.Goals as goal

pub returns : goal.returns
returns c = let a = c.args in ap Ok c.silent.ensures ∙ row_sequence a.body.now a.start c.big_endian-number.result c.requires c.big_endian-number.ensures
