use Prim.Native.Nat.{◌-◌}
use Rattle.event.specs.Outcome.{Readable}
use Rattle.smf.proofs.ListLaws.{R}
use Rattle.fold_piece.specs.FoldAnswer.{tracks_free}
use mathlib.Core.Path.{◌≡◌}
use Rattle.fold.specs.Code.Look.{fine}
use Rattle.smf.specs.Code.Chain.{placed_from}
use Rattle.fold.proofs.look.scan_tracks.Given as goal

abbrev pub invariant-loop : goal.invariant-loop
invariant-loop l =
    Readable (R l.file (l.count - l.counter) l.at) × (tracks_free (placed_from l.file (l.count - l.counter) l.at) fine ≡ tracks_free (placed_from l.file l.count l.first) fine)
