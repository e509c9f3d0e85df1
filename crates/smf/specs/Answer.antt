-- "An answer is number, place and length."
use Rattle.std.specs.Prelude.{Result, Ok, Err, ℕ}
use Rattle.event.specs.Outcome.{Outcome, ok, refused}
use Rattle.event.specs.Refusal.{number_of}
use Rattle.smf.specs.declared.Answer.{Answer}
use Rattle.smf.specs.declared.Refused.{Refused}

-- "Success: 0, place 0, the length written"
abbrev pub success : ℕ → Answer
success n = record { number = 0; place = 0; length = n }

-- "Any refusal: .. length is 0"
abbrev pub refusal : ℕ → ℕ → Answer
refusal number place = record { number = number; place = place; length = 0 }

-- "save in 14, which gives the length needed, at place 0"
abbrev pub room_needed : ℕ → Answer
room_needed n = record { number = 14; place = 0; length = n }

-- the verdict on what was read, a file or what stands after its last track: "the length written (0 for checking a file)"
unfoldable pub verdict : {A : Type 0} → Outcome A → Answer
verdict (ok x r) = success 0
verdict (refused n p) = refusal n p

module _ {A : Type 0} where
  -- the answer that a check gives
  abbrev pub answered : Result A Refused → Answer
  answered (Ok a) = success 0
  answered (Err r) = refusal (number_of r.why) r.place
