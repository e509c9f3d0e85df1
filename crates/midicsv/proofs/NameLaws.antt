-- A type that is no text's has no name among the texts.
use mathlib.Core.Path.{◌≡◌, refl}
use Prim.Native.Nat.{ℕ, zero, suc}
use mathlib.Core.List.{[]}
use lib.ListN.{get_or}
use Rattle.midicsv.specs.Table.{text_names}

pub no_text_lem : (t : ℕ) → (t ≡ 1 → ⊥) → (t ≡ 2 → ⊥) → (t ≡ 3 → ⊥) → (t ≡ 4 → ⊥) → (t ≡ 5 → ⊥) → (t ≡ 6 → ⊥) → (t ≡ 7 → ⊥) → get_or text_names t [] ≡ []
no_text_lem zero a b c d e f g = refl
no_text_lem (suc zero) a b c d e f g = absurd (a refl)
no_text_lem (suc (suc zero)) a b c d e f g = absurd (b refl)
no_text_lem (suc (suc (suc zero))) a b c d e f g = absurd (c refl)
no_text_lem (suc (suc (suc (suc zero)))) a b c d e f g = absurd (d refl)
no_text_lem (suc (suc (suc (suc (suc zero))))) a b c d e f g = absurd (e refl)
no_text_lem (suc (suc (suc (suc (suc (suc zero)))))) a b c d e f g = absurd (f refl)
no_text_lem (suc (suc (suc (suc (suc (suc (suc zero))))))) a b c d e f g = absurd (g refl)
no_text_lem (suc (suc (suc (suc (suc (suc (suc (suc t)))))))) a b c d e f g = refl
