-- What the writer of Data finds at a place of the line l.
use Rattle.std.specs.Prelude.{◌≡◌, ℕ, ◌≤◌, List, length, drop}
use Rattle.midicsv.specs.ReadField.{read_field}
use Rattle.midicsv_record.specs.Row.{byte_in, after_field}
use Rattle.midicsv_read.specs.declared.DataStep.{DataStep}

-- r has the byte of the field from at on, and the place after its comma
pub record DataIs (l : List ℕ) (at : ℕ) (r : DataStep) : Type 0 where
  pub byte : r.byte ≡ byte_in (read_field (drop at l))
  pub rest : drop r.next l ≡ after_field (read_field (drop at l))
  pub inside : r.next ≤ length l
