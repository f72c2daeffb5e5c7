use Rattle.std.proofs.Common.{◌≡◌, true, List, Result, Ok, refl, sym, ap, ◌∙◌, subst}
use Rattle.std.specs.Prelude.{is_some}
use Rattle.apl_arrays.specs.Origins.{origin_number}
use Rattle.apl_contexts.specs.declared.context.Context.{Context}
use Rattle.apl_contexts.specs.Contexts.{line_in}
use Rattle.apl_machine.specs.Spaces.{Space, IsSound, executed_in}
use Rattle.apl_machine.specs.Worlds.{settings, state_at}
use Rattle.apl_machine.proofs.Executed.{executed_is, executed_sound}
use Rattle.apl_contexts.proofs.Begun.{line_begun}
use Rattle.apl_frames.specs.Flat.{begun_flat}
use Rattle.apl_tokens.specs.declared.token.Token.{Token}
use Rattle.apl_tokens.specs.declared.line.TokenError.{TokenError}
use Rattle.apl_contexts.specs.Typed.{IsTyped}
use Rattle.apl_machine.proofs.workspace.Workspace.begin_executed.Goals as goal

one_reading : {a b : List Token} → ◌≡◌ {A = Result (List Token) TokenError} (Ok a) (Ok b) → a ≡ b
one_reading h = cc

pub returns-clause-sound : goal.returns-clause-sound
returns-clause-sound c =
    let s : Space = record { maps = c.self.inside.names; kept = settings c.self.inside.stops c.self.inside.traces (origin_number c.self.inside.io); contexts = c.self.inside.contexts; output = c.self.inside.output.items } in
    let sound : IsSound s = subst IsSound (sym c.self.view_is) c.requires.sound in
    let runs = subst (λ (x : Space). is_some (line_in x.contexts) ≡ true) (sym c.self.view_is) c.requires.runs in
    subst (λ (l : List Context). IsSound (record s { contexts = l })) (sym c.in_ok-enter_execute.ensures.ok)
    (executed_sound s (record { text = c.args.text; line = begun_flat c.args.line.value.bound c.args.line.value.code }) c.args.left sound runs refl)

pub returns-clause-ok : goal.returns-clause-ok
returns-clause-ok c tokens read =
    let s : Space = record { maps = c.self.inside.names; kept = settings c.self.inside.stops c.self.inside.traces (origin_number c.self.inside.io); contexts = c.self.inside.contexts; output = c.self.inside.output.items } in
    let sound : IsSound s = subst IsSound (sym c.self.view_is) c.requires.sound in
    let t : IsTyped s.maps c.args.text c.args.line.value.bound = subst (λ (x : Space). IsTyped x.maps c.args.text c.args.line.value.bound) (sym c.self.view_is) c.requires.line in
    let same : t.0 ≡ tokens = one_reading (sym t.1.0 ∙ read) in
    ap (λ (l : List Context). state_at s.maps s.kept l s.output) c.in_ok-enter_execute.ensures.ok
    ∙ executed_is s.maps s.kept s.output s.contexts (record { text = c.args.text; line = begun_flat c.args.line.value.bound c.args.line.value.code }) c.args.text t.0 c.args.left sound.contexts.as_many refl (line_begun c.args.line.value _ t.2).rest
    ∙ ap (λ (ts : List Token). executed_in s c.args.text ts c.args.left) same
    ∙ ap (λ (x : Space). executed_in x c.args.text tokens c.args.left) c.self.view_is
