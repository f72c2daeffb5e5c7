-- Indices modulo a length.
use Rattle.std.proofs.Common.{◌≡◌, ℕ, ℤ, pos, negsuc, ◌+◌, ◌-◌, ◌*◌, ◌%◌, ◌<◌, ◌==◌, ◌+ℤ◌, zero, suc, cond, List, [], ◌∷◌, map, length, get_or, subst, refl, ap, sym, ◌∙◌, arith}
use Rattle.std.specs.Prelude.{unsigned_abs}
use Rattle.std.proofs.lemmas.Int.{ints, int_rem_euclid_is}
use Rattle.std.proofs.Math.Nat.{add-mod-mod}
use Rattle.std.proofs.lemmas.Nat.{mod_below}
use Rattle.apl_turns.specs.Turns.{round_index}
use Rattle.apl_turns.specs.inside.Lines.{shift_of, shift_at}

-- a number with some lengths more is not negative
round_by : (n : ℕ) (z : ℤ) (k c m : ℕ) → 0 < n → z +ℤ pos (c * n) ≡ pos m → round_index n z k ≡ (k + shift_of n z) % n
round_by n z k c m h e =
    ap unsigned_abs (int_rem_euclid_is (pos k +ℤ z) (pos n) n c (k + m) h refl (omega (arith, ints)))
    ∙ sym (add-mod-mod k m n)
    ∙ ap (λ r. (k + r) % n) (sym (ap unsigned_abs (int_rem_euclid_is z (pos n) n c m h refl e)))

-- an index and a number together are the index and the number's shift together
pub round_is : (n : ℕ) (z : ℤ) (k : ℕ) → 0 < n → round_index n z k ≡ (k + shift_of n z) % n
round_is n (pos a) k h = round_by n (pos a) k 0 a h (omega (arith, ints))
round_is n (negsuc a) k h = round_by n (negsuc a) k (a + 1) ((a + 1) * n - (a + 1)) h (omega (arith, ints, enough a n h))
  where
    enough : (a n : ℕ) → 0 < n → (a + 1) * n - (a + 1) + (a + 1) ≡ (a + 1) * n
    enough a n h = grind arith

pub shift_of_below : (n : ℕ) (z : ℤ) → 0 < n → shift_of n z < n
shift_of_below n (pos a) h = mod_below a n h
shift_of_below n (negsuc a) h = omega arith

each_below : (n : ℕ) (zs : List ℤ) (k : ℕ) → 0 < n → get_or (map (shift_of n) zs) k 0 < n
each_below n [] k h = h
each_below n (z ∷ zs) zero h = shift_of_below n z h
each_below n (z ∷ zs) (suc k) h = each_below n zs k h

pub shift_at_below : (n : ℕ) (zs : List ℤ) (shifts : List ℕ) (line : ℕ) → 0 < n → shifts ≡ map (shift_of n) zs → shift_at shifts line < n
shift_at_below n zs shifts line h e =
    let P : List ℕ → Type 0 = λ l. shift_at l line < n in
    subst P (sym e) (each_below n zs (cond (length (map (shift_of n) zs) == 1) 0 line) h)
