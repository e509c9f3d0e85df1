use Rattle.midicsv.specs.ReadRecord.{of_fields, read_line}
use Rattle.midicsv_scan.specs.FieldAt.{Counted}
use mathlib.Core.Path.{sym, ap, subst}
use Rattle.midicsv_record.proofs.refusal.refusal_of.Goals as goal

pub returns-in-None : goal.returns-in-None
unfolding Counted of_fields read_line
returns-in-None c = sym (ap of_fields (subst (Counted c.args.line.now) c.in-None.is c.count_fields.ensures))
