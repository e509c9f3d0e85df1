use Rattle.midicsv.specs.Code.Form.{form_of}
use Prim.Native.Nat.{suc, ◌-◌}
use lib.ListN.{length}
use Rattle.midicsv_write.proofs.TextLaws.{TracksGoing}
use mathlib.Core.Path.{◌≡◌}
use Rattle.midicsv_write.proofs.to_text.put_tracks.Given as goal

abbrev pub invariant-loop-track : goal.invariant-loop-track
invariant-loop-track l = (length l.out ≡ length l.initial.out) × TracksGoing (form_of l.sheet) l.file l.count l.first l.from l.initial.out l.out l.next l.at l.track

abbrev pub decreases-loop-track : goal.decreases-loop-track
decreases-loop-track l = suc l.count - l.track
