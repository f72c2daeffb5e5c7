use Rattle.std.proofs.Common.{◌≡◌, ◌∷◌, ◌++◌, decimal, drop}
use Rattle.std.specs.List.{flat_map}
use Rattle.apl_page.proofs.texts.push_lengths.Given as goal

abbrev pub invariant-loop-length : goal.invariant-loop-length
invariant-loop-length l = l.line.items ++ flat_map (λ n. 32 ∷ decimal n) (drop l.length-index l.lengths) ≡ l.fn.line.items ++ flat_map (λ n. 32 ∷ decimal n) l.lengths
