use Rattle.std.proofs.Common.{rules, ◌≡◌, ◌∙◌, map, sym, ap}
use Rattle.std.proofs.lemmas.Result.{on_ok_weaker}
use Rattle.std.specs.Option.{option_copied}
use Rattle.apl_arrays.specs.Origins.{origin_number}
use Rattle.apl_names.specs.declared.binding.Binding.TheVariants.{Unset}
use Rattle.apl_names.specs.Maps.{with_locals}
use Rattle.apl_machine_state.specs.Calls.{bound_name, bound_to, label_of, local_of}
use Rattle.apl_parts.proofs.Labels.{labels_few}
use Rattle.apl_machine.specs.inside.Locals.{alone}
use Rattle.apl_machine.proofs.CallNames.{names_bound}
use Rattle.apl_machine.proofs.locals.bind_names.Goals as goal

pub bind_labels-requires : goal.bind_labels-requires
bind_labels-requires c = labels_few c.args.definition.now c.labels.result.now c.labels.ensures c.header-header.ensures.defined

pub returns-clause-ok : goal.returns-clause-ok
returns-clause-ok c =
    let d = c.args.definition.now in
    let at_first = local_of (alone (origin_number c.args.origin)) in
    let labels = c.in_ok-bind_labels.ensures.ok ∙ ap (λ l. with_locals (map label_of l) c.args.names.now) c.labels.ensures in
    let own : c.as_slice.result.now ≡ d.header.locals = search rules in
    let locals = c.in_ok-bind_locals.ensures.ok ∙ ap (λ l. with_locals (map at_first l) c.bind_labels.new.names) own ∙ ap (with_locals (map at_first d.header.locals)) labels in
    let second : option_copied c.as_ref.result ≡ d.header.right = search rules in
    let given = option_copied c.args.right in
    let right = c.in_ok-bind_named.ensures.ok ∙ ap (λ n. with_locals (bound_name n (bound_to given)) c.bind_locals.new.names) second
    ∙ ap (with_locals (bound_name d.header.right (bound_to given))) locals in
    let first : option_copied c.as_ref-2.result ≡ d.header.left = search rules in
    let left = c.in_ok-bind_named-2.ensures.ok ∙ ap (λ n. with_locals (bound_name n (bound_to (option_copied c.args.left))) c.bind_named.new.names) first
    ∙ ap (with_locals (bound_name d.header.left (bound_to (option_copied c.args.left)))) right in
    let gives : option_copied c.as_ref-3.result ≡ d.header.result = search rules in
    on_ok_weaker c.bind_named-3.result
    (λ ok. ok ∙ ap (λ n. with_locals (bound_name n Unset) c.bind_named-2.new.names) gives ∙ ap (with_locals (bound_name d.header.result Unset)) left
    ∙ sym (names_bound (alone (origin_number c.args.origin)) d (option_copied c.args.left) (option_copied c.args.right) c.args.names.now))
    c.bind_named-3.ensures.ok
