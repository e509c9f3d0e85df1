-- The form that the writers' flag asks for.
use Rattle.std.specs.Prelude.{Bool, true, false}
use Rattle.midicsv.specs.Show.{Form, as_text, as_sheet}

-- a sheet where the flag is set
unfoldable pub form_of : Bool → Form
form_of true = as_sheet
form_of false = as_text
