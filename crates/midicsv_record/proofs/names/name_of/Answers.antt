use Rattle.event.specs.Outcome.{value_or}
use Rattle.midicsv.specs.Names.{name_from}
use Rattle.midicsv_scan.specs.FieldAt.{field_as, Within}
use Rattle.midicsv_record.specs.Name.{name_as}
use Rattle.midicsv_record.proofs.OtherFieldLaws.{no_name}
use Rattle.midicsv_record.proofs.names.name_of.Goals as goal

pub slice_bounds-find_name-count : goal.slice_bounds-find_name-count
unfolding Within
slice_bounds-find_name-count c = (rw c.in-Name.is at c.requires).0

pub slice_bounds-find_name-start : goal.slice_bounds-find_name-start
unfolding Within
slice_bounds-find_name-start c = (rw c.in-Name.is at c.requires).0

pub slice_bounds-find_name-end : goal.slice_bounds-find_name-end
unfolding Within
slice_bounds-find_name-end c = (rw c.in-Name.is at c.requires).1

pub returns-in-Name : goal.returns-in-Name
unfolding name_from value_or field_as
returns-in-Name c = rw c.in-Name.is c.find_name.ensures

pub returns-in_default : goal.returns-in_default
unfolding name_as
returns-in_default c = no_name c.args.line.now c.args.f c.in_default.not-Name
