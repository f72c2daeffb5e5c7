use Rattle.std.proofs.Common.{◌∙◌, sym, ap, Some}
use Rattle.std.specs.Prelude.{option_map}
use Rattle.indexmap.specs.IndexMap.{keys}
use Rattle.apl_names.specs.declared.binding.Binding.{Binding}
use Rattle.apl_names.specs.Maps.{Text}
use Rattle.apl_names.specs.Slots.{hidden_of, name_at, scope_of}
use Rattle.apl_names.proofs.Scopes.{key_at}
use Rattle.apl_names.proofs.Beneath.{global_says}
use Rattle.apl_names.proofs.Whole.{holds_here}
use Rattle.apl_names.proofs.global_scope.global_at.Goals as goal

pub returns-in_err-content_beneath : goal.returns-in_err-content_beneath
returns-in_err-content_beneath c =
    let m = c.args.symbols.now in
    let n = name_at (keys m) c.args.slot in
    let last = global_says (hidden_of (keys m) c.args.scopes.now) (scope_of m.entries) (keys m) n (holds_here m.entries) in
    ap (option_map _) c.from_residual-in_err-content_beneath.ensures
    ∙ ap (option_map {U = Text × Binding} (λ b. (n, b))) (c.in_err-content_beneath.ensures ∙ sym last)

pub returns : goal.returns
returns c =
    let m = c.args.symbols.now in
    let n = name_at (keys m) c.args.slot in
    let last = global_says (hidden_of (keys m) c.args.scopes.now) (scope_of m.entries) (keys m) n (holds_here m.entries) in
    ap (λ (x : Text). option_map {U = Text × Binding} (λ b. (x, b)) (Some c.in_ok-content_beneath.field-0.now)) (sym (key_at m.entries c.args.slot _ (sym c.in_ok-name.ensures.entry)))
    ∙ ap (option_map {U = Text × Binding} (λ b. (n, b))) (c.in_ok-content_beneath.ensures ∙ sym last)
