use mathlib.Core.List.{[]}
use Rattle.event.specs.Outcome.{Readable, value_or}
use Prim.Native.Nat.{◌-◌, ◌≤◌}
use lib.ListN.{length, drop}
use lib.Seq.{sets}
use Rattle.smf.specs.Listing.{end_times, event_counts}
use Rattle.smf.proofs.ListLaws.{R}
use Rattle.smf.specs.Padding.{tracks_padding}
use mathlib.Core.Path.{◌≡◌}
use Rattle.smf.proofs.list.fill.Given as goal

abbrev pub invariant-loop-i : goal.invariant-loop-i
invariant-loop-i l = (l.at ≤ length l.file) × (l.i ≤ l.count) × (length l.ends ≡ length l.initial.ends) × (length l.counts ≡ length l.initial.counts) × Readable (R l.file (l.count - l.i) l.at) × (sets l.ends l.i (end_times (value_or [] (R l.file (l.count - l.i) l.at))) ≡ sets l.initial.ends 0 (end_times (value_or [] (R l.file l.count l.first)))) × (sets l.counts l.i (event_counts (value_or [] (R l.file (l.count - l.i) l.at))) ≡ sets l.initial.counts 0 (event_counts (value_or [] (R l.file l.count l.first)))) × (length l.padding ≡ length l.initial.padding) × (sets l.padding l.i (tracks_padding (l.count - l.i) l.at (drop l.at l.file)) ≡ sets l.initial.padding 0 (tracks_padding l.count l.first (drop l.first l.file)))

abbrev pub decreases-loop-i : goal.decreases-loop-i
decreases-loop-i l = l.count - l.i
