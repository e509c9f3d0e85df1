-- A quoted text character by character, as the code goes through it.
use Rattle.std.specs.Prelude.{◌≡◌, ℕ, ◌<◌, List, [], ◌∷◌}
use Rattle.midicsv.specs.ReadField.{Seen, plain, a_quote, a_slash, octal1, octal2}
use Rattle.midicsv_scan.specs.Unquoted.{unquoted}
use Rattle.midicsv_record.specs.declared.TextState.{TextState}
use Rattle.midicsv_record.specs.declared.TextState.TheVariants.{Plain, Quote, Slash, One, Two}
use Rattle.midicsv_record.specs.declared.TextStep.{TextStep}
use Rattle.midicsv_record.specs.declared.TextStep.TheVariants.{Nothing, Byte, Closed}

-- what has just been passed, as the definition has it
unfoldable pub seen_as : TextState → Seen
seen_as Plain = plain
seen_as Quote = a_quote
seen_as Slash = a_slash
seen_as (One n) = octal1 n
seen_as (Two n) = octal2 n

-- the digits so far make a number that two more leave in 32 bits
unfoldable pub Small : TextState → Type 0
Small Plain = Unit {0}
Small Quote = Unit {0}
Small Slash = Unit {0}
Small (One n) = n < 256
Small (Two n) = n < 4096

-- the same of the state after a step
unfoldable pub SmallStep : TextStep → Type 0
SmallStep (Nothing p) = Small p
SmallStep (Byte b p) = Small p
SmallStep Closed = Unit {0}

-- the bytes that a step and the characters l after it give
unfoldable pub step_as : TextStep → List ℕ → List ℕ
step_as (Nothing p) l = unquoted l (seen_as p)
step_as (Byte b p) l = b ∷ unquoted l (seen_as p)
step_as Closed l = []

-- r is what the character c gives after p
abbrev pub Gives : TextState → ℕ → TextStep → Type 0
Gives p c r = (l : List ℕ) → step_as r l ≡ unquoted (c ∷ l) (seen_as p)
