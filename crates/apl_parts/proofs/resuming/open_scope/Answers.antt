use Rattle.std.proofs.Common.{◌∙◌, [], ◌∷◌, ◌++◌, map, sym, ap}
use Rattle.apl_machine_state.specs.Calls.{bound_to, label_of}
use Rattle.apl_names.specs.Maps.{with_locals}
use Rattle.apl_names.proofs.Binds.{with_locals-append, with_locals-opened}
use Rattle.apl_parts.proofs.Labels.{labels_few}
use Rattle.apl_parts.proofs.resuming.open_scope.Goals as goal

pub bind_labels-requires : goal.bind_labels-requires
bind_labels-requires c = labels_few c.args.definition.now c.labels.result.now c.labels.ensures c.header-header.ensures.defined

pub returns : goal.returns
returns c =
    let values = map (λ l. (l.0, bound_to l.1)) c.args.locals.items in
    let labels = map label_of c.args.definition.now.labels in
    c.in_ok-bind_values.ensures
    ∙ ap (with_locals values) (c.in_ok-bind_labels.ensures.ok ∙ ap (λ l. with_locals (map label_of l) c.open.new.self) c.labels.ensures ∙ ap (with_locals labels) c.in_ok-open.ensures.ok)
    ∙ sym (with_locals-append values labels ([] ∷ c.args.names.now))
    ∙ with_locals-opened (values ++ labels) c.args.names.now
