use Rattle.sheet_table.specs.Cut.{blank_beside}
use Rattle.sheet.proofs.LinePart.skip_beside.Given as goal

abbrev pub ghost-past : goal.ghost-past
ghost-past a = blank_beside a.test.0.now
