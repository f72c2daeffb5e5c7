use Rattle.std.proofs.Common.{List, sym, subst}
use Rattle.std.specs.List.{All}
use Rattle.apl_tokens.specs.declared.token.Token.{Token}
use Rattle.apl_tokens.specs.Tokens.{AreTokens}
use Rattle.apl_translate.specs.Binding.{HasName}
use Rattle.apl_translate.proofs.Spelt.{spells_names}
use Rattle.apl_translate.proofs.Sizes.{tokens_small, tokens_placed}
use Rattle.apl_rows.proofs.codes.bound.Goals as goal

pub bind-requires-clause-placed : goal.bind-requires-clause-placed
bind-requires-clause-placed c = tokens_placed c.as_slice.result.now (subst AreTokens (sym c.as_slice.ensures.value) c.in_ok-tokens.ensures.sound)

pub bind-requires-clause-small : goal.bind-requires-clause-small
bind-requires-clause-small c = tokens_small c.as_slice.result.now (subst AreTokens (sym c.as_slice.ensures.value) c.in_ok-tokens.ensures.sound)

pub bind-requires-clause-named : goal.bind-requires-clause-named
bind-requires-clause-named c = let P = λ (ts : List Token). All (λ t. HasName t.kind) ts in subst P (sym c.as_slice.ensures.value) (spells_names _ _ c.in_ok-tokens.ensures.found)
