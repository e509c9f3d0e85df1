-- Document 02, request 3: "4 falls away". No call on a file, which alone answered it, answers it again.
use Rattle.std.specs.Prelude.{◌≡◌, ℕ, List}
use Rattle.event.specs.Bytes.{Bytes}
use Rattle.noferkash.specs.Packed.{number_of}
use Rattle.noferkash.specs.Calls.{CheckCall, TextCall, TidyCall, ListCall, FoldCall, SheetCall}

-- whatever the file, the room and what it held
pub record FourGone : Type 0 where
  pub check : (f : List ℕ) (r : ℕ) → Bytes f → CheckCall f r → number_of r ≡ 4 → ⊥
  pub text : (f old : List ℕ) (r : ℕ) (new : List ℕ) → Bytes f → TextCall f old r new → number_of r ≡ 4 → ⊥
  pub tidy : (f old : List ℕ) (r : ℕ) (new : List ℕ) → Bytes f → TidyCall f old r new → number_of r ≡ 4 → ⊥
  pub list : (f ends counts padding : List ℕ) (r : ℕ) (ends' counts' padding' : List ℕ) → Bytes f → ListCall f ends counts padding r ends' counts' padding' → number_of r ≡ 4 → ⊥
  pub fold : (f old : List ℕ) (r : ℕ) (new : List ℕ) → Bytes f → FoldCall f old r new → number_of r ≡ 4 → ⊥
  pub sheet : (f old : List ℕ) (r : ℕ) (new : List ℕ) → Bytes f → SheetCall f old r new → number_of r ≡ 4 → ⊥
