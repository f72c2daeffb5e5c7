use Rattle.apl_tokens.proofs.Answered.{answer_spells}
use Rattle.apl_tokens.proofs.Limits.{tokens_limits}
use Rattle.apl_translate.proofs.Spelt.{spells_names}
use Rattle.apl_names.proofs.Bindable.{placed, small}
use Rattle.apl_loading.proofs.lines.code_of.Goals as goal

pub bind-requires-clause-few : goal.bind-requires-clause-few
bind-requires-clause-few c = (tokens_limits c.args.tokens.now c.requires.0 (answer_spells c.requires.0 c.args.tokens.now c.requires.1)).few

pub bind-requires-clause-placed : goal.bind-requires-clause-placed
bind-requires-clause-placed c = placed c.args.tokens.now (tokens_limits c.args.tokens.now c.requires.0 (answer_spells c.requires.0 c.args.tokens.now c.requires.1))

pub bind-requires-clause-small : goal.bind-requires-clause-small
bind-requires-clause-small c = small c.args.tokens.now (tokens_limits c.args.tokens.now c.requires.0 (answer_spells c.requires.0 c.args.tokens.now c.requires.1))

pub bind-requires-clause-named : goal.bind-requires-clause-named
bind-requires-clause-named c = spells_names c.args.tokens.now c.requires.0 (answer_spells c.requires.0 c.args.tokens.now c.requires.1)
