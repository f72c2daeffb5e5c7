use Rattle.apl_tokens.proofs.Answered.{answer_spells}
use Rattle.apl_tokens.proofs.Limits.{tokens_limits}
use Rattle.apl_translate.proofs.Spelt.{spells_names}
use Rattle.apl_names.proofs.Bindable.{placed, small}
use Rattle.apl_parts.proofs.resuming.waiting_line.Goals as goal

pub bind-requires-clause-few : goal.bind-requires-clause-few
bind-requires-clause-few c = (tokens_limits c.args.tokens.now c.requires.text (answer_spells c.requires.text c.args.tokens.now c.requires.read)).few

pub bind-requires-clause-placed : goal.bind-requires-clause-placed
bind-requires-clause-placed c = placed c.args.tokens.now (tokens_limits c.args.tokens.now c.requires.text (answer_spells c.requires.text c.args.tokens.now c.requires.read))

pub bind-requires-clause-small : goal.bind-requires-clause-small
bind-requires-clause-small c = small c.args.tokens.now (tokens_limits c.args.tokens.now c.requires.text (answer_spells c.requires.text c.args.tokens.now c.requires.read))

pub bind-requires-clause-named : goal.bind-requires-clause-named
bind-requires-clause-named c = spells_names c.args.tokens.now c.requires.text (answer_spells c.requires.text c.args.tokens.now c.requires.read)
