-- "A spelling says for each variable-length number (every delta, every length, a fixed meta's too) whether it takes 1, 2, 3 or
-- 4 bytes, and for each channel event whether its status byte is left out." Here the part that one event has in it.
use Rattle.std.specs.Prelude.{◌≡◌, ℕ, ◌-◌, ◌<◌, Bool, true, length}
use Rattle.event.specs.Number.{Width, limit}
use Rattle.event.specs.Event.{Event}
use Rattle.event.specs.Frame.{Frame, channel1, channel2, exclusive, meta, frame}

-- what it says of an event after the delta: of a channel event, whether its status byte is left out; of any other, the bytes of its length
pub data Rest : Type 0 where
  left_out : Bool → Rest
  length_in : Width → Rest

-- of an event: the bytes of its delta, and the rest
pub record Spelling : Type 0 where
  pub delta : Width
  pub rest : Rest

-- it speaks of what its event has, "every number fits its bytes and a status is left out only where an equal one is in force"
unfoldable pub Spelled : ℕ → Frame → Rest → Type 0
Spelled force (channel1 s a) (left_out out) = out ≡ true → force ≡ s
Spelled force (channel1 s a) (length_in w) = ⊥
Spelled force (channel2 s a b) (left_out out) = out ≡ true → force ≡ s
Spelled force (channel2 s a b) (length_in w) = ⊥
Spelled force (exclusive s d) (left_out out) = ⊥
Spelled force (exclusive s d) (length_in w) = length d < limit w
Spelled force (meta t d) (left_out out) = ⊥
Spelled force (meta t d) (length_in w) = length d < limit w

-- "a status left out wherever permitted": where one that is equal is in force
unfoldable pub LeavesOut : ℕ → Frame → Rest → Type 0
LeavesOut force (channel1 s a) (left_out out) = force ≡ s → out ≡ true
LeavesOut force (channel1 s a) (length_in w) = Unit {0}
LeavesOut force (channel2 s a b) (left_out out) = force ≡ s → out ≡ true
LeavesOut force (channel2 s a b) (length_in w) = Unit {0}
LeavesOut force (exclusive s d) r = Unit {0}
LeavesOut force (meta t d) r = Unit {0}

-- the spelling of an event is permitted, after one at the Time prev, with the status force in force
pub record Permitted (prev force : ℕ) (e : Event) (s : Spelling) : Type 0 where
  pub delta : e.time - prev < limit s.delta
  pub rest : Spelled force (frame e.kind) s.rest
