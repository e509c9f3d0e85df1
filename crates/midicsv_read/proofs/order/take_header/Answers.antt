use mathlib.Core.List.{[]}
use lib.ListN.{get_or}
use Rattle.smf.specs.Division.{division_of}
use Rattle.smf.proofs.FileLaws.{header_size}
use Rattle.midicsv_read.proofs.TakeLaws.{header_phase, header_unmarked, header_moved}
use native.Mathlib.Omega.{arith}
use mathlib.Core.Path.{sym, ◌∙◌}
use mathlib.Core.Bool.{false≢true}
use Rattle.midicsv_read.proofs.order.take_header.Goals as goal

pub returns-then-not-is_first : goal.returns-then-not-is_first
returns-then-not-is_first c = let a = c.args in record { fact_1 = λ m. header_phase m a.st _ a.row [] (λ e. false≢true (sym c.if-not-is_first.true ∙ c.is_first.ensures.1 e)); fact_2 = tt }

pub returns-then-not-is_marked : goal.returns-then-not-is_marked
returns-then-not-is_marked c = let a = c.args in
    record { fact_1 = λ m. header_unmarked m a.st _ a.row [] (sym c.is_marked.ensures ∙ c.if-not-is_marked.true); fact_2 = tt }

pub returns : goal.returns
returns c = let a = c.args in
    let w = c.put_header-at.ensures in
    record { fact_1 = λ m. header_moved m a.st _ a.row _ _ (c.is_first.ensures.0 c.if-not-is_first.false) (sym c.is_marked.ensures ∙ c.if-not-is_marked.false) c.requires.fact_2 w; fact_2 = omega (arith, c.put_header-at.ensures.place, header_size (get_or a.row.columns 0 0) (get_or a.row.columns 1 0) (division_of (get_or a.row.columns 2 0)) [] []) }
