use Rattle.std.proofs.Common.{◌≡◌, ◌∷◌, ◌++◌, drop}
use Rattle.std.specs.List.{flat_map}
use Rattle.apl_defn.proofs.listing.push_locals.Given as goal

abbrev pub invariant-loop-name : goal.invariant-loop-name
invariant-loop-name l = l.out.items ++ flat_map (λ n. 59 ∷ n) (drop l.name-index l.names) ≡ l.fn.out.items ++ flat_map (λ n. 59 ∷ n) l.names
