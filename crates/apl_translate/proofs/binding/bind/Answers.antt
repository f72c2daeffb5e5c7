use Rattle.std.proofs.Common.{ap, ◌∙◌}
use Rattle.apl_translate.specs.Binding.{nothing_left, items_from, bound_of}
use Rattle.apl_translate.proofs.Bindings.{FitsLine, bound_fits, line_is}
use Rattle.apl_translate.proofs.binding.bind.Goals as goal

fits : (c : goal.In_ok-constants) → FitsLine c.in_ok-items.items.items c.in_ok-constants.constants.items
fits c = bound_fits c.args.classes.now c.args.tokens.now _ _ _ c.requires.few c.requires.placed c.requires.named c.without_label.ensures c.in_ok-items.ensures c.in_ok-constants.ensures

pub new-requires-clause-few : goal.new-requires-clause-few
new-requires-clause-few c = (fits c).few

pub new-requires-clause-fresh : goal.new-requires-clause-fresh
new-requires-clause-fresh c = (fits c).fresh

pub new-requires-clause-known : goal.new-requires-clause-known
new-requires-clause-known c = (fits c).known

pub new-requires-clause-placed : goal.new-requires-clause-placed
new-requires-clause-placed c = (fits c).there

pub new-requires-clause-named : goal.new-requires-clause-named
new-requires-clause-named c = (fits c).named

pub new-requires-clause-bounded : goal.new-requires-clause-bounded
new-requires-clause-bounded c = (fits c).bounded

pub returns : goal.returns
unfolding bound_of
returns c = line_is c.new.result _ _ (c.new.ensures.items ∙ c.in_ok-items.ensures ∙ ap (items_from c.args.classes.now nothing_left) c.without_label.ensures) (c.new.ensures.constants ∙ c.in_ok-constants.ensures)
