-- Phases compared.
use mathlib.Core.Path.{◌≡◌, refl, sym, subst, ◌∙◌}
use mathlib.Core.Bool.{Bool, true, false, not, false≢true}
use borrow.Author.Rules.{rules}
use denote.Enum.Bare.{sameb, same_true}
use Rattle.midicsv_read.specs.contracts.Phase.{the_type}
use Rattle.midicsv_read.specs.declared.Phase.{Phase}
use Rattle.midicsv_read.specs.declared.Phase.TheVariants.{BeforeHeader, BetweenTracks, InTrack, AfterEnd}

pub same_phase : (p q : Phase) → true ≡ sameb the_type p q → p ≡ q
same_phase p q e = same_true the_type (search rules) p q (sym e)

self_same : (p : Phase) → sameb the_type p p ≡ true
self_same BeforeHeader = refl
self_same BetweenTracks = refl
self_same InTrack = refl
self_same AfterEnd = refl

pub other_phase : (p q : Phase) → false ≡ sameb the_type p q → p ≡ q → ⊥
other_phase p q e h = false≢true (e ∙ subst (λ z. sameb the_type p z ≡ true) h (self_same p))

-- the same by the opposite test
unnot : (b c : Bool) → c ≡ not b → not c ≡ b
unnot true c e = rw e refl
unnot false c e = rw e refl

pub not_other : (p q : Phase) → false ≡ not (sameb the_type p q) → p ≡ q
not_other p q e = same_phase p q (unnot (sameb the_type p q) false e)

pub not_same : (p q : Phase) → true ≡ not (sameb the_type p q) → p ≡ q → ⊥
not_same p q e = other_phase p q (unnot (sameb the_type p q) true e)
