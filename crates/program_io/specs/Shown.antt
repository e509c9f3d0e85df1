-- The lines that the programs write of what came.
use Rattle.std.specs.Prelude.{ℕ, List, [], ◌∷◌, ◌++◌, Option, Some}
use Rattle.std.specs.Fmt.{decimal, ◌++?◌}
use Rattle.smf.specs.declared.Answer.{Answer}

-- the text of each number, a blank after it
abbrev pub listed : {N : Type 0} → (N → Option (List ℕ)) → List N → Option (List ℕ)
listed text [] = Some []
listed text (n ∷ ns) = (text n ++? Some (32 ∷ [])) ++? listed text ns

-- number, place and length in decimal, a blank after each
abbrev pub answer_text : Answer → List ℕ
answer_text a = decimal a.number ++ (32 ∷ decimal a.place) ++ (32 ∷ decimal a.length) ++ (32 ∷ [])
