use Rattle.smf.specs.Piece.{tracks_fit}
use Rattle.midicsv.specs.ReadRecord.{together}
use Rattle.midicsv_record.proofs.NameLaws.{only_header}
use borrow.Author.Tests.{ne_eqb}
use mathlib.Core.Path.{refl}
use Rattle.midicsv_record.proofs.record.is_together.Goals as goal

pub returns-then-columns-ne0 : goal.returns-then-columns-ne0
unfolding together tracks_fit
returns-then-columns-ne0 c = rw (c.in-Header.is, ne_eqb _ 0 c.if-columns-ne0.true) refl

pub returns-else-columns-ne0 : goal.returns-else-columns-ne0
unfolding together tracks_fit
returns-else-columns-ne0 c = rw (c.in-Header.is, c.if-columns-ne0.false) refl

pub returns-in_default : goal.returns-in_default
returns-in_default c = only_header c.args.name c.args.columns c.in_default.not-Header
