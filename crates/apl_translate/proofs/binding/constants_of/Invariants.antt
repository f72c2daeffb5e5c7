use Rattle.std.proofs.Common.{◌≡◌, ◌++◌, drop}
use Rattle.std.specs.List.{flat_map}
use Rattle.apl_translate.specs.Binding.{constant_in}
use Rattle.apl_translate.proofs.binding.constants_of.Given as goal

abbrev pub invariant-loop-token : goal.invariant-loop-token
invariant-loop-token l = l.constants.items ++ flat_map (λ t. constant_in t.kind) (drop l.token-index l.tokens) ≡ flat_map (λ t. constant_in t.kind) l.tokens
