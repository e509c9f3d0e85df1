use Rattle.sheet.proofs.LoneLaws.{several_line, lone_line, lone_within}
use Rattle.sheet.proofs.lines.put_line.Goals as goal

pub returns-in_default : goal.returns-in_default
returns-in_default c = rw (← several_line _ _ c.in_default.ensures.fact_1) c.put.ensures

pub slice_bounds-held-count : goal.slice_bounds-held-count
slice_bounds-held-count c = (lone_within _ _ c.in-Some.ensures.fact_2).0

pub slice_bounds-held-start : goal.slice_bounds-held-start
slice_bounds-held-start c = (lone_within _ _ c.in-Some.ensures.fact_2).0

pub slice_bounds-held-end : goal.slice_bounds-held-end
slice_bounds-held-end c = (lone_within _ _ c.in-Some.ensures.fact_2).1

pub returns : goal.returns
returns c = rw (← lone_line _ _ _ c.in-Some.ensures.fact_1) c.put-2.ensures
