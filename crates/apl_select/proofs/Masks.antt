-- Zeros and ones, one after another.
use Rattle.std.proofs.Common.{zero, suc, ◌≡◌, ℕ, ◌+◌, ◌<◌, ◌≤◌, ℤ, pos, negsuc, Bool, true, false, ◌&&◌, cond, List, [], ◌∷◌, length, drop, get_or, refl, ap, sym, ◌∙◌, arith}
use Rattle.std.specs.List.{list_all}
use Rattle.std.proofs.lemmas.Bool.{and_parts, ltb-true}
use Rattle.std.proofs.lemmas.List.{drop_all, drop_more}
use mir.Val.{bool_byte}
use Rattle.apl_select.specs.Compress.{is_bit, is_one}

-- one number more is a bit, and so are all
pub bits_step : (all bit : Bool) (zs : List ℤ) (k : ℕ) → k < length zs → bit ≡ is_bit (get_or zs k (pos 0)) → ((all && bit) && list_all is_bit (drop (k + 1) zs)) ≡ (all && list_all is_bit (drop k zs))
bits_step all bit zs k l e =
    assoc all bit (list_all is_bit (drop (k + 1) zs))
    ∙ ap (λ b. all && (b && list_all is_bit (drop (k + 1) zs))) e
    ∙ ap (λ ys. all && list_all is_bit ys) (sym (drop_more zs k (pos 0) l))
  where
    assoc : (a b c : Bool) → ((a && b) && c) ≡ (a && (b && c))
    assoc true b c = refl
    assoc false b c = refl

pub bits_end : (all : Bool) (zs : List ℤ) (k : ℕ) → length zs ≤ k → (all && list_all is_bit (drop k zs)) ≡ all
bits_end all zs k l = ap (λ ys. all && list_all is_bit ys) (drop_all k zs l) ∙ ends all
  where
    ends : (b : Bool) → (b && true) ≡ b
    ends true = refl
    ends false = refl

bit_at : (zs : List ℤ) (k : ℕ) → list_all is_bit zs ≡ true → k < length zs → is_bit (get_or zs k (pos 0)) ≡ true
bit_at [] k h l = absurd (omega arith)
bit_at (z ∷ zs) zero h l = (and_parts (is_bit z) (list_all is_bit zs) h).0
bit_at (z ∷ zs) (suc k) h l = bit_at zs k (and_parts (is_bit z) (list_all is_bit zs) h).1 (omega arith)

-- a truth value as a byte
pub byte_of : (b : Bool) → bool_byte b ≡ cond b 1 0
byte_of true = refl
byte_of false = refl

-- of zeros and ones each that is not 0 is 1
pub step_at_zero : (zs : List ℤ) (k : ℕ) → get_or zs k (pos 0) ≡ pos 0 → ◌≡◌ {A = ℕ} 0 (cond (is_one (get_or zs k (pos 0))) 1 0)
step_at_zero zs k e = ap (λ z. cond (is_one z) 1 0) (sym e)

pub step_at_one : (zs : List ℤ) (k : ℕ) → list_all is_bit zs ≡ true → k < length zs → (get_or zs k (pos 0) ≡ pos 0 → ⊥) → ◌≡◌ {A = ℕ} 1 (cond (is_one (get_or zs k (pos 0))) 1 0)
step_at_one zs k h l ne = each (get_or zs k (pos 0)) (bit_at zs k h l) ne
  where
    each : (z : ℤ) → is_bit z ≡ true → (z ≡ pos 0 → ⊥) → ◌≡◌ {A = ℕ} 1 (cond (is_one z) 1 0)
    each (pos zero) h ne = absurd (ne refl)
    each (pos (suc zero)) h ne = refl
    each (pos (suc (suc n))) h ne = absurd (let l : suc (suc n) < 2 = ltb-true (suc (suc n)) 2 h in omega arith)
    each (negsuc n) h ne = absurd (cc)
