use Rattle.event.specs.Sort.{sort_table}
use Rattle.event.proofs.SortLaws.{table_at}
use borrow.Author.Rules.{rules}
use Rattle.event.proofs.read.sort_of.Goals as goal

pub returns : goal.returns
unfolding sort_table
returns c = table_at c.args.b (search rules)
