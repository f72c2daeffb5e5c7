-- Runs of characters at the start.
use Rattle.std.proofs.Common.{◌≡◌, ℕ, suc, ◌+◌, Bool, true, false, cond, List, [], ◌∷◌, ◌++◌, length, take, drop, get_or, refl, arith}
use Rattle.std.specs.List.{list_all, prefix_len}
use Rattle.apl_tokens.specs.declared.class.Class.TheVariants as class
use Rattle.apl_tokens.specs.declared.reading.Run.TheVariants as run
use Rattle.apl_tokens.specs.Characters.{class_of}
use Rattle.apl_tokens.specs.Reading.{run_len}
use Rattle.apl_tokens.proofs.Classes.{and_left, and_right}

take_suc : (n c : ℕ) (cs : List ℕ) → take (1 + n) (c ∷ cs) ≡ c ∷ take n cs
take_suc n c cs = let e : 1 + n ≡ suc n = omega arith in rw e refl

-- what is counted passes
run_passes-case : (p : ℕ → Bool) (c : ℕ) (cs : List ℕ) (b : Bool) → p c ≡ b → list_all p (take (prefix_len p cs) cs) ≡ true → list_all p (take (cond b (1 + prefix_len p cs) 0) (c ∷ cs)) ≡ true
run_passes-case p c cs false e h = refl
run_passes-case p c cs true e h = rw (take_suc (prefix_len p cs) c cs, e, h) refl

pub run_passes : (p : ℕ → Bool) (cs : List ℕ) → list_all p (take (prefix_len p cs) cs) ≡ true
run_passes p [] = refl
run_passes p (c ∷ cs) = run_passes-case p c cs (p c) refl (run_passes p cs)

-- what is counted stops
run_stops-case : (p : ℕ → Bool) (c : ℕ) (cs : List ℕ) (b : Bool) → p c ≡ b → p (get_or (drop (prefix_len p cs) cs) 0 0) ≡ false → p (get_or (drop (cond b (1 + prefix_len p cs) 0) (c ∷ cs)) 0 0) ≡ false
run_stops-case p c cs false e h = e
run_stops-case p c cs true e h = let k : 1 + prefix_len p cs ≡ suc (prefix_len p cs) = omega arith in rw k h

pub run_stops : (p : ℕ → Bool) (cs : List ℕ) → p 0 ≡ false → p (get_or (drop (prefix_len p cs) cs) 0 0) ≡ false
run_stops p [] z = z
run_stops p (c ∷ cs) z = run_stops-case p c cs (p c) refl (run_stops p cs z)

-- a run, and then what isn't of it
run_exact-case : (p : ℕ → Bool) (c : ℕ) (w after : List ℕ) (b : Bool) → p c ≡ b → b ≡ true → prefix_len p (w ++ after) ≡ length w → cond b (1 + prefix_len p (w ++ after)) 0 ≡ suc (length w)
run_exact-case p c w after true e t h = omega (arith, h)
run_exact-case p c w after false e t h = absurd cc

stop_at : (p : ℕ → Bool) (after : List ℕ) → p (get_or after 0 0) ≡ false → prefix_len p after ≡ 0
stop_at p [] h = refl
stop_at p (c ∷ cs) h = rw h refl

pub run_exact : (p : ℕ → Bool) (w after : List ℕ) → list_all p w ≡ true → p (get_or after 0 0) ≡ false → prefix_len p (w ++ after) ≡ length w
run_exact p [] after all h = stop_at p after h
run_exact p (c ∷ w) after all h = run_exact-case p c w after (p c) refl (and_left _ _ all) (run_exact p w after (and_right _ _ all) h)

-- a letter before the rest of a name
pub letter_more : (c : ℕ) (rest : List ℕ) → class_of c ≡ class.Letter → run_len run.Name (c ∷ rest) ≡ 1 + run_len run.Name rest
letter_more c rest e = rw e refl
