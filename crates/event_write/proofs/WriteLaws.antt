-- What is written in a row is written as one.
use mathlib.Core.Path.{◌≡◌, refl, sym, ap, subst, ◌∙◌}
use mathlib.Core.List.{List, [], ◌∷◌, ◌++◌, append-nil}
use Prim.Native.Nat.{ℕ, suc, ◌+◌, ◌≤◌}
use native.Mathlib.Nat.{add-zero}
use native.Mathlib.Omega.{arith}
use lib.ListN.{length, drop, set, length-append}
use lib.Seq.{sets, sets-eq}
use Rattle.event_write.specs.Written.{Written, overwrite}

pub sets_append : (xs ys l : List ℕ) (i : ℕ) → sets (sets l i xs) (i + length xs) ys ≡ sets l i (xs ++ ys)
sets_append [] ys l i = rw add-zero
sets_append (a ∷ xs) ys l i =
    let e : i + suc (length xs) ≡ suc i + length xs = omega arith in
    rw e (sets_append xs ys (set l i a) (suc i))

-- what is put at the front of a room, all of it
pub put_whole : (xs old : List ℕ) (n : ℕ) → n ≡ length xs → n ≤ length old → sets old 0 xs ≡ xs ++ drop n old
put_whole xs old n size g =
    let past : 0 + length xs ≡ n = omega (arith, size) in
    sets-eq xs old 0 (omega (arith, size)) ∙ ap (λ z. xs ++ drop z old) past

-- one thing after the other
pub then : {old mid new xs ys : List ℕ} {at m next : ℕ} → Written old at xs mid m → Written mid m ys new next → Written old at (xs ++ ys) new next
then {old} {mid} {new} {xs} {ys} {at} {m} {next} a b = record {
  contents = b.contents ∙ rw (a.contents, a.place) (sets_append xs ys old at);
  place = omega (arith, length-append xs ys, a.place, b.place);
}

pub nothing : (old : List ℕ) (at : ℕ) → Written old at [] old at
nothing old at = record { contents = refl; place = omega arith }

-- a loop that writes whole: new, with the rest still to be written at next, is old with whole written at at
pub record Remains (old : List ℕ) (at : ℕ) (whole new : List ℕ) (next : ℕ) (rest : List ℕ) : Type 0 where
  pub contents : overwrite new next rest ≡ overwrite old at whole
  pub place : next + length rest ≡ at + length whole

pub all_remains : (old : List ℕ) (at : ℕ) (whole : List ℕ) → Remains old at whole old at whole
all_remains old at whole = record { contents = refl; place = refl }

pub less_remains : {old whole mid new item rest : List ℕ} {at m next : ℕ} → Remains old at whole mid m (item ++ rest) → Written mid m item new next → Remains old at whole new next rest
less_remains {old} {whole} {mid} {new} {item} {rest} {at} {m} {next} a b = record {
  contents = rw (b.contents, b.place) (sets_append item rest mid m) ∙ a.contents;
  place = omega (arith, length-append item rest, a.place, b.place);
}

pub none_remains : {old whole new : List ℕ} {at next : ℕ} → Remains old at whole new next [] → Written old at whole new next
none_remains {old} {whole} {new} {at} {next} a = record { contents = a.contents; place = omega (arith, a.place) }

-- the same where what is left is known to begin with the item, to be the item, to be nothing
pub go_on_lem : {old whole mid new : List ℕ} {from m next : ℕ} (left item rest : List ℕ) → Remains old from whole mid m left → left ≡ item ++ rest → Written mid m item new next
    → Remains old from whole new next rest
go_on_lem {old} {whole} {mid} {new} {from} {m} {next} left item rest r e w = less_remains (subst (λ z. Remains old from whole mid m z) e r) w

pub finish : {old whole mid new : List ℕ} {from m next : ℕ} (left item : List ℕ) → Remains old from whole mid m left → left ≡ item → Written mid m item new next
    → Written old from whole new next
finish left item r e w = none_remains (go_on_lem left item [] r (e ∙ sym (append-nil item)) w)

pub done : {old whole new : List ℕ} {from next : ℕ} (left : List ℕ) → Remains old from whole new next left → left ≡ [] → Written old from whole new next
done {old} {whole} {new} {from} {next} left r e = none_remains (subst (λ z. Remains old from whole new next z) e r)

-- ---- a writer that was lent no room measures

lent_nothing : (i : ℕ) (xs : List ℕ) → sets [] i xs ≡ []
lent_nothing i [] = refl
lent_nothing i (x ∷ xs) = lent_nothing (suc i) xs

-- the room whose empty part was lent is as it was
pub after_measure : {part out bytes xs new : List ℕ} {at from size next : ℕ} → Written [] from xs part size → Written (part ++ out) at bytes new next → Written out at bytes new next
after_measure {part} {out} {bytes} {xs} {new} {at} {from} {size} {next} m w =
    subst (λ z. Written (z ++ out) at bytes new next) (m.contents ∙ lent_nothing from xs) w

pub unmeasured : {part xs : List ℕ} {from size : ℕ} (out : List ℕ) → Written [] from xs part size → part ++ out ≡ out
unmeasured {part} {xs} {from} out m = ap (λ z. z ++ out) (m.contents ∙ lent_nothing from xs)

pub measured : {part xs : List ℕ} {size : ℕ} → Written [] 0 xs part size → size ≡ length xs
measured m = omega (arith, m.place)
