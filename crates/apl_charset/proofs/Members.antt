-- What holds of each character of the set, by a test that computes.
use Rattle.std.proofs.Common.{◌≡◌, ℕ, ◌<◌, Bool, true, false, ◌&&◌, List, [], ◌∷◌, refl, subst, arith, inl, inr, ltb, eqb}
use Rattle.std.specs.List.{list_any, list_all}
use Rattle.std.specs.Char.{IsScalar}
use Rattle.std.proofs.Math.Utf8.{low_scalar}
use Rattle.std.proofs.lemmas.Bool.{or_cases, eqb-true, ltb-true, leb-true}
use Rattle.apl_charset.specs.Set.{is_member, symbols}

pub and_left : (a b : Bool) → (a && b) ≡ true → a ≡ true
and_left true b h = refl
and_left false b h = absurd cc

pub and_right : (a b : Bool) → (a && b) ≡ true → b ≡ true
and_right true b h = h
and_right false b h = absurd cc

-- what each entry of a table passes, c passes that stands in it
pub entry_passes : (p : ℕ → Bool) (table : List ℕ) (c : ℕ) → list_all p table ≡ true → list_any (λ s. eqb s c) table ≡ true → p c ≡ true
entry_passes p [] c all any = absurd cc
entry_passes p (s ∷ table) c all any =
    elim (or_cases (eqb s c) (list_any (λ t. eqb t c) table) any) [
      | inl here ↦ subst (λ (x : ℕ). p x ≡ true) (eqb-true s c here) (and_left (p s) (list_all p table) all)
      | inr later ↦ entry_passes p table c (and_right (p s) (list_all p table) all) later
    ]

-- a character of the set is below the surrogates
pub member_low : (c : ℕ) → is_member c ≡ true → c < 55296
unfolding is_member
member_low c h =
    elim (or_cases _ (list_any (λ s. eqb s c) symbols) h) [
      | inl ascii ↦ omega (arith, leb-true c 126 (and_right _ _ ascii))
      | inr symbol ↦ ltb-true c 55296 (entry_passes (λ s. ltb s 55296) symbols c refl symbol)
    ]

pub member_scalar : (c : ℕ) → is_member c ≡ true → IsScalar c
member_scalar c h = low_scalar c (member_low c h)
