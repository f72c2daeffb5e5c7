use Rattle.std.proofs.Common.{List, refl, sym, ap, ◌∙◌, subst}
use Rattle.apl_arrays.specs.Origins.{origin_number}
use Rattle.apl_machine_state.specs.Beginning.{begun, begun_by, started}
use Rattle.apl_contexts.proofs.Begun.{line_begun}
use Rattle.apl_frames.specs.Flat.{begun_flat}
use Rattle.apl_contexts.specs.Typed.{IsTyped}
use Rattle.apl_contexts.specs.declared.context.Context.{Context}
use Rattle.apl_machine.specs.Spaces.{Space, IsSound, state_of}
use Rattle.apl_contexts.specs.Contexts.{line_in}
use Rattle.apl_machine.proofs.Changed.{started_is}
use Rattle.apl_machine.proofs.Typed.{typed_sound}
use Rattle.apl_machine.specs.Worlds.{settings, state_at}
use Rattle.apl_machine.proofs.machine.start.Goals as goal

pub returns-clause-ok : goal.returns-clause-ok
returns-clause-ok c =
    let s : Space = record { maps = c.workspace.inside.names; kept = settings c.workspace.inside.stops c.workspace.inside.traces (origin_number c.workspace.inside.io); contexts = c.workspace.inside.contexts; output = c.workspace.inside.output.items } in
    let sound : IsSound s = subst IsSound (sym c.workspace.view_is) c.requires.sound in
    let t : IsTyped s.maps c.args.text.now c.args.line.value.bound = subst (λ (x : Space). IsTyped x.maps c.args.text.now c.args.line.value.bound) (sym c.workspace.view_is) c.requires.typed in
    ap (λ (l : List Context). state_at s.maps s.kept l s.output) c.in_ok-push_statement.ensures.ok
    ∙ started_is s.maps s.kept s.output s.contexts (record { text = c.new-text.result; line = begun_flat c.args.line.value.bound c.args.line.value.code }) c.args.text.now t.0 sound.contexts.as_many (c.new-text.ensures ∙ c.in_ok-from_slice.ensures.items) (line_begun c.args.line.value _ t.2).rest
    ∙ ap (started (state_of s) c.args.text.now t.0) (sym t.1.1)
    ∙ ap (begun_by (state_of s) c.args.text.now) (sym t.1.0)
    ∙ ap (λ (x : Space). begun (state_of x) c.args.text.now) c.workspace.view_is

pub returns-clause-sound : goal.returns-clause-sound
returns-clause-sound c =
    let s : Space = record { maps = c.workspace.inside.names; kept = settings c.workspace.inside.stops c.workspace.inside.traces (origin_number c.workspace.inside.io); contexts = c.workspace.inside.contexts; output = c.workspace.inside.output.items } in
    let sound : IsSound s = subst IsSound (sym c.workspace.view_is) c.requires.sound in
    let idle = ap (λ (x : Space). line_in x.contexts) c.workspace.view_is ∙ c.requires.idle in
    subst (λ (l : List Context). IsSound (record s { contexts = l })) (sym c.in_ok-push_statement.ensures.ok)
    (typed_sound s (record { text = c.new-text.result; line = begun_flat c.args.line.value.bound c.args.line.value.code }) sound idle refl)
