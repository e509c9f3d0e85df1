-- A list of numbers with one more, and a formatter that has written one more.
use Rattle.std.proofs.Common.{◌≡◌, refl, sym, ap, ◌∙◌, ℕ, ◌+◌, ◌<◌, List, [], ◌∷◌, ◌++◌, Option, None, Some, length, take, get_or, add-one, append-nil, append_assoc, IfSome, IsOk, Result}
use Rattle.std.proofs.Math.Seq.{take-suc}
use Rattle.std.proofs.Output.{has_written_append}
use Rattle.std.specs.Fmt.{◌++?◌, HasWritten, DisplaysOnOk}
use Rattle.std.specs.declared.fmt.Formatter.{Formatter}
use Rattle.std.specs.declared.fmt.Error.{Error}
use Rattle.program_io.specs.Shown.{listed}

nothing_then : (o : Option (List ℕ)) → Some [] ++? o ≡ o
nothing_then None = refl
nothing_then (Some a) = refl

then_nothing : (o : Option (List ℕ)) → o ++? Some [] ≡ o
then_nothing None = refl
then_nothing (Some a) = ap Some (append-nil a)

then_assoc : (o p q : Option (List ℕ)) → (o ++? p) ++? q ≡ o ++? (p ++? q)
then_assoc None p q = refl
then_assoc (Some a) None q = refl
then_assoc (Some a) (Some b) None = refl
then_assoc (Some a) (Some b) (Some c) = ap Some (append_assoc a b c)

module _ {N : Type 0} (text : N → Option (List ℕ)) where
  listed_push : (ns : List N) (n : N) → listed text (ns ++ n ∷ []) ≡ listed text ns ++? (text n ++? Some (32 ∷ []))
  listed_push [] n = then_nothing _ ∙ sym (nothing_then _)
  listed_push (m ∷ ns) n = rw (listed_push ns n) (sym (then_assoc (text m ++? Some (32 ∷ [])) (listed text ns) _))

  pub listed_take : (ns : List N) (i : ℕ) (n : N) → i < length ns → n ≡ get_or ns i n
      → listed text (take (i + 1) ns) ≡ listed text (take i ns) ++? (text n ++? Some (32 ∷ []))
  listed_take ns i n within is = rw (add-one, take-suc ns i n within, ← is, listed_push)

-- f wrote o and became g, which wrote p and became h
pub shows_more : {W : Type 0} (took : W → List ℕ → W → Type 0) (f g h : Formatter W) (r : Result (Unit {0}) Error) (o p : Option (List ℕ))
    → IfSome o (λ bs. HasWritten took f bs g) → DisplaysOnOk took g r p h → IsOk r → IfSome (o ++? p) (λ bs. HasWritten took f bs h)
shows_more took f g h r None p x y ok = tt
shows_more took f g h r (Some a) None x y ok = tt
shows_more took f g h r (Some a) (Some b) x y ok = has_written_append took f a g b h x (y x.plain ok)
