-- Folds of which each step gives 0 or 1.
use Rattle.std.specs.Prelude.{zero, suc, ℤ, pos, List, [], ◌∷◌, Option, None, Some, Result, Ok}
use Rattle.apl_faults.specs.declared.fault.Fault.{Fault}
use Rattle.apl_folds.specs.declared.ends.Ends.{Ends}

-- one of two where a value is 0 or 1
abbrev pub pick : Option ℤ → Option ℤ → Result ℤ Fault → Option ℤ
pick zeroth first (Ok (pos zero)) = zeroth
pick zeroth first (Ok (pos (suc zero))) = first
pick zeroth first r = None

-- the function of a number and a known one, where it is 0 or 1
abbrev pub truth : (ℤ → ℤ → Result ℤ Fault) → ℤ → Option ℤ → Option ℤ
truth f x None = None
truth f x (Some y) = pick (Some (pos 0)) (Some (pos 1)) (f x y)

-- the fold of some numbers and one more, where each step gives 0 or 1
abbrev pub truths : (ℤ → ℤ → Result ℤ Fault) → List ℤ → ℤ → Option ℤ
truths f [] y = Some y
truths f (x ∷ xs) y = truth f x (truths f xs y)

-- what stands for the value behind a last number, if there is one
abbrev pub behind : (ℤ → ℤ → Result ℤ Fault) → Ends → Option ℤ → ℤ → Option ℤ
behind f ends None y = Some y
behind f ends (Some x) y = pick ends.zero ends.one (f x y)

abbrev pub told_at : (ℤ → ℤ → Result ℤ Fault) → Ends → ℤ → Option ℤ
told_at f ends y = behind f ends ends.last y
