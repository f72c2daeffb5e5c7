use Rattle.std.proofs.Common.{List, ap, ◌∙◌, map}
use Rattle.std.specs.List.{flat_map}
use Rattle.apl_tokens.specs.declared.token.Token.{Token}
use Rattle.apl_tokens.proofs.Answered.{answer_spells}
use Rattle.apl_tokens.proofs.Limits.{tokens_limits}
use Rattle.apl_translate.specs.Binding.{bound_of, name_in}
use Rattle.apl_translate.proofs.Sizes.{tokens_placed, tokens_small}
use Rattle.apl_translate.proofs.Spelt.{spells_names}
use Rattle.apl_machine_state.specs.Environment.{class_of}
use Rattle.apl_listed.proofs.Lines.{names_are}
use Rattle.apl_listed.proofs.binding.bound_now.Goals as goal

pub bind-requires-clause-few : goal.bind-requires-clause-few
bind-requires-clause-few c = (tokens_limits c.args.tokens.now c.requires.0 (answer_spells c.requires.0 c.args.tokens.now c.requires.1)).few

pub bind-requires-clause-placed : goal.bind-requires-clause-placed
bind-requires-clause-placed c = tokens_placed c.args.tokens.now (tokens_limits c.args.tokens.now c.requires.0 (answer_spells c.requires.0 c.args.tokens.now c.requires.1))

pub bind-requires-clause-small : goal.bind-requires-clause-small
bind-requires-clause-small c = tokens_small c.args.tokens.now (tokens_limits c.args.tokens.now c.requires.0 (answer_spells c.requires.0 c.args.tokens.now c.requires.1))

pub bind-requires-clause-named : goal.bind-requires-clause-named
bind-requires-clause-named c = spells_names c.args.tokens.now c.requires.0 (answer_spells c.requires.0 c.args.tokens.now c.requires.1)

pub returns : goal.returns
returns c =
    let names = ap (λ (ts : List Token). flat_map (λ (t : Token). name_in t.kind) ts) c.without_label.ensures ∙ names_are c.args.tokens.now in
    let classes = c.in_ok-classes.ensures ∙ ap (map (class_of c.args.machine.now.world c.args.machine.now.contexts)) names in
    c.in_ok-bound.ensures ∙ ap (bound_of c.args.tokens.now) (c.as_slice.ensures.value ∙ classes)
