-- Lists of what was looked for.
use Rattle.std.proofs.Common.{◌≡◌, ℕ, ℤ, pos, suc, ◌+◌, ◌≤◌, Bool, true, false, not, nat_lt, cond, List, [], ◌∷◌, map, length, to_z, of_z, w8, refl, ap, ◌∙◌, arith}
use mir.Val.{bool_byte}
use Rattle.std.specs.Prelude.{nat_eq, ◌||◌}
use Rattle.std.specs.Ordering.{int_eq}
use Rattle.std.specs.List.{list_any, position_or_len}
use Rattle.std.proofs.lemmas.Bool.{lt-ltb, ltb-true, ltb-false, eqb-true, eqb-false}
use Rattle.std.proofs.lemmas.Bool.Decides.{nat_tests}
use Rattle.apl_scalar.specs.Functions.{number_of}
use Rattle.apl_search.proofs.Firsts.{within}

-- an item that stands there has a place
pub any_by_place : {A : Type 0} (p : A → Bool) (xs : List A) → nat_lt (position_or_len p xs) (length xs) ≡ list_any p xs
any_by_place p [] = refl
any_by_place p (x ∷ xs) = each (p x) refl (any_by_place p xs) (within p xs)
  where
    each : (b : Bool) → p x ≡ b → nat_lt (position_or_len p xs) (length xs) ≡ list_any p xs → position_or_len p xs ≤ length xs → nat_lt (position_or_len p (x ∷ xs)) (length (x ∷ xs)) ≡ list_any p (x ∷ xs)
    each true e h w = simp e (lt-ltb 0 (suc (length xs)) (omega arith))
    each false e h w = simp e (next (position_or_len p xs) (length xs) ∙ h)
      where
        next : (m n : ℕ) → nat_lt (1 + m) (suc n) ≡ nat_lt m n
        next m n = grind (arith, nat_tests)

-- codes are equal where characters are
code_eq : (d c : ℕ) → int_eq (pos d) (pos c) ≡ nat_eq d c
code_eq d c = each (nat_lt d c) (nat_lt c d) (nat_eq d c) refl refl refl
  where
    each : (p q r : Bool) → nat_lt d c ≡ p → nat_lt c d ≡ q → nat_eq d c ≡ r → int_eq (pos d) (pos c) ≡ nat_eq d c
    each true q true e f g = absurd (omega (arith, ltb-true d c e, eqb-true d c g))
    each true q false e f g = simp (e, g)
    each false true true e f g = absurd (omega (arith, ltb-true c d f, eqb-true d c g))
    each false true false e f g = simp (e, f, g)
    each false false true e f g = simp (e, f, g)
    each false false false e f g = absurd (eqb-false d c g (omega (arith, ltb-false d c e, ltb-false c d f)))

pub place_of_code : (d : ℕ) (cs : List ℕ) → position_or_len (int_eq (pos d)) (map pos cs) ≡ position_or_len (nat_eq d) cs
place_of_code d [] = refl
place_of_code d (c ∷ cs) = ap (λ (b : Bool). cond (not b) (1 + position_or_len (int_eq (pos d)) (map pos cs)) 0) (code_eq d c) ∙ ap (λ (n : ℕ). cond (not (nat_eq d c)) (1 + n) 0) (place_of_code d cs)

pub code_stands : (d : ℕ) (cs : List ℕ) → list_any (int_eq (pos d)) (map pos cs) ≡ list_any (nat_eq d) cs
code_stands d [] = refl
code_stands d (c ∷ cs) = ap (λ (b : Bool). b || list_any (int_eq (pos d)) (map pos cs)) (code_eq d c) ∙ ap (λ (b : Bool). nat_eq d c || b) (code_stands d cs)

-- a verdict as a byte is its number
pub kept : (b : Bool) (z : ℤ) → z ≡ pos (bool_byte b) → to_z w8 (of_z w8 z) ≡ number_of b
kept true z e = ap (λ x. to_z w8 (of_z w8 x)) e
kept false z e = ap (λ x. to_z w8 (of_z w8 x)) e
