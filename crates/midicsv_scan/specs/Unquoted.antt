-- The bytes of a quoted text as a total function of what stands after its opening quote: of a text that is read, its bytes
-- (unquoted_is); of any other, what a writer puts that goes on byte by byte.
use Rattle.std.specs.Prelude.{ℕ, ◌+◌, ◌-◌, ◌*◌, ◌%◌, List, [], ◌∷◌, eqb}
use Rattle.event.specs.Choice.{pick}
use Rattle.midicsv.specs.ReadField.{Seen, plain, a_quote, a_slash, octal1, octal2}

-- after the closing quote there are none
unfoldable pub unquoted : List ℕ → Seen → List ℕ
unquoted [] plain = []
unquoted [] a_quote = []
unquoted [] a_slash = []
unquoted [] (octal1 n) = []
unquoted [] (octal2 n) = []
unquoted (c ∷ l) plain = pick (eqb c 34) (unquoted l a_quote) (pick (eqb c 92) (unquoted l a_slash) (c ∷ unquoted l plain))
unquoted (c ∷ l) a_quote = pick (eqb c 34) (34 ∷ unquoted l plain) []
unquoted (c ∷ l) a_slash = pick (eqb c 92) (92 ∷ unquoted l plain) (unquoted l (octal1 (c - 48)))
unquoted (c ∷ l) (octal1 n) = unquoted l (octal2 (n * 8 + (c - 48)))
unquoted (c ∷ l) (octal2 n) = ((n * 8 + (c - 48)) % 256) ∷ unquoted l plain
