use native.Mathlib.Omega.{arith}
use Rattle.midicsv_scan.proofs.CutLaws.{scanned, line_stops, cut_feed, cut_last}
use Rattle.midicsv_scan.proofs.frame.line_at.Goals as goal

pub returns-then-end-text : goal.returns-then-end-text
returns-then-end-text c = cut_feed _ _ _ (scanned _ _ _ (omega arith) c.past-end.ensures) c.if-end-text.true (line_stops _ _ _ c.past-end.ensures c.if-end-text.true)

pub returns : goal.returns
returns c = cut_last _ _ _ (scanned _ _ _ (omega arith) c.past-end.ensures) c.requires c.if-end-text.false
