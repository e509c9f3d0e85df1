use Rattle.smf.proofs.HeaderLaws.{count_none, count_single, count_many}
use Rattle.smf.proofs.header.count_ok.Goals as goal

pub returns-then-count-eq0 : goal.returns-then-count-eq0
returns-then-count-eq0 c = count_none c.args.format c.args.count c.if-count-eq0.true

pub returns-then-format-eq0 : goal.returns-then-format-eq0
returns-then-format-eq0 c = count_single c.args.format c.args.count c.if-count-eq0.false c.if-format-eq0.true

pub returns : goal.returns
returns c = count_many c.args.format c.args.count c.if-count-eq0.false c.if-format-eq0.false
