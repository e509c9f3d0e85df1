use Rattle.smf.specs.Code.Chain.{placed_from}
use Rattle.fold.proofs.ScanLaws.{look_few, look_many}
use native.Mathlib.Omega.{arith}
use Rattle.fold.proofs.look.look.Goals as goal

pub returns-then-count-lt-SEVERAL : goal.returns-then-count-lt-SEVERAL
returns-then-count-lt-SEVERAL c = let a = c.args in look_few (placed_from a.file.now a.count a.first) a.count (omega (arith, c.if-count-lt-SEVERAL.true))

pub returns : goal.returns
returns c = let a = c.args in look_many (placed_from a.file.now a.count a.first) a.count _ (omega (arith, c.if-count-lt-SEVERAL.false)) c.scan_tracks.ensures
