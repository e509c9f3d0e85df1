use Prim.Native.Nat.{◌≤◌, ◌-◌}
use lib.ListN.{length}
use Rattle.event.specs.Outcome.{Readable}
use Rattle.event_write.specs.Head.{manner_of}
use Rattle.event_write.proofs.WriteLaws.{Remains}
use Rattle.smf.proofs.ListLaws.{R}
use Rattle.smf_write.proofs.FileLaws.{TracksLeft}
use mathlib.Core.Path.{◌≡◌}
use Rattle.smf_write.proofs.tidy.put_tracks.Given as goal

abbrev pub invariant-loop : goal.invariant-loop
invariant-loop l = (l.at ≤ length l.file) × (length l.out ≡ length l.initial.out) × Readable (R l.file (l.count - l.counter) l.at) × Remains l.initial.out l.from (TracksLeft (manner_of l.short) l.file l.count l.first) l.out l.next (TracksLeft (manner_of l.short) l.file (l.count - l.counter) l.at)
