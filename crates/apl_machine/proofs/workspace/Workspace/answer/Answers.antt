use Rattle.std.proofs.Common.{rules, ◌≡◌, true, List, Some, None, Err, drop, sym, ap, ◌∙◌, subst}
use Rattle.std.specs.Prelude.{is_some, slice_get, IfSome}
use Rattle.apl_arrays.specs.Origins.{origin_number}
use Rattle.apl_faults.specs.declared.fault.Fault.TheVariants.{Value}
use Rattle.apl_machine_state.specs.Items.{answered}
use Rattle.apl_machine_state.specs.Reports.{fault_lines}
use Rattle.apl_frames.specs.Ends.{IsColumn}
use Rattle.apl_frames.specs.Flat.{flat_rest}
use Rattle.apl_contexts.specs.declared.context.Context.{Context}
use Rattle.apl_contexts.specs.declared.moves.Move.TheVariants.{IsAnswered}
use Rattle.apl_contexts.specs.Contexts.{Beneath, FitsRest, dressed, moved_newest, rest_in}
use Rattle.apl_machine.specs.Spaces.{Space, answered_in, state_of}
use Rattle.apl_machine.specs.Worlds.{settings, state_at}
use Rattle.apl_machine.proofs.Ends.{a_place}
use Rattle.apl_machine.proofs.Executed.{below_waits, has_below, missing_is, value_is}
use Rattle.apl_machine.proofs.Changed.{suspended_sound}
use Rattle.apl_machine.proofs.workspace.Workspace.answer.Goals as goal

pub unreachable-requires : goal.unreachable-requires
unreachable-requires c =
    let s = c.args.self.now in
    let none : slice_get s.contexts 1 ≡ None = search rules in
    has_below s.contexts c.requires.sound.contexts.stacked c.requires.executes none

pub unreachable-requires-in_default-line : goal.unreachable-requires-in_default-line
unreachable-requires-in_default-line c =
    let s = c.args.self.now in
    let k = c.in-Some.below.now in
    let get : slice_get s.contexts 1 ≡ Some k = search rules in
    let none : rest_in k ≡ None = search rules in
    subst (FitsRest Beneath) none (below_waits s.contexts k c.requires.sound.contexts.stacked c.requires.executes get)

pub missing-requires : goal.missing-requires
missing-requires c =
    let s = c.args.self.now in
    let k = c.in-Some.below.now in
    let get : slice_get s.contexts 1 ≡ Some k = search rules in
    let does : rest_in k ≡ Some c.in-Some-line.line.now = search rules in
    subst (FitsRest Beneath) does (below_waits s.contexts k c.requires.sound.contexts.stacked c.requires.executes get)

pub returns-in-Some-value-clause-ok : goal.returns-in-Some-value-clause-ok
returns-in-Some-value-clause-ok c =
    let s = c.args.self.now in
    let k = c.in-Some.below.now in
    let f = c.in-Some-line.line.now in
    let a = c.in-Some-value.value in
    let get : slice_get s.contexts 1 ≡ Some k = search rules in
    let does : rest_in k ≡ Some f = search rules in
    let waits = subst (FitsRest Beneath) does (below_waits s.contexts k c.requires.sound.contexts.stacked c.requires.executes get) in
    ap (λ (l : List Context). state_at c.self.inside.names (settings c.self.inside.stops c.self.inside.traces (origin_number c.self.inside.io)) l c.self.inside.output.items) (c.change.ensures ∙ ap (moved_newest (IsAnswered a)) c.pop.ensures.left)
    ∙ ap (λ (x : Space). state_at x.maps x.kept (moved_newest (IsAnswered a) (drop 1 x.contexts)) x.output) c.self.view_is
    ∙ value_is s.maps s.kept s.output k f does s.contexts a c.requires.executes get c.frame-frame.ensures.stands waits
    ∙ ap (answered_in s) (sym c.in-Some-value.is)

pub returns-clause-sound : goal.returns-clause-sound
returns-clause-sound c = suspended_sound c.args.self.now c.fail.new.self _ c.requires.sound c.in_ok-fail.ensures.ok

pub returns-clause-ok : goal.returns-clause-ok
returns-clause-ok c =
    let s = c.args.self.now in
    let k = c.in-Some.below.now in
    let f = c.in-Some-line.line.now in
    let get : slice_get s.contexts 1 ≡ Some k = search rules in
    let does : rest_in k ≡ Some f = search rules in
    let some : is_some c.missing.result ≡ true = search rules in
    let place = a_place c.missing.result some in
    let wants = subst (λ m. IfSome m (λ at. (answered None (flat_rest f).items ≡ Err at) × IsColumn at)) place.1 c.missing.ensures.some in
    let stack = c.stack-stack.ensures ∙ ap (λ (x : Space). x.contexts) c.self.view_is in
    let report = c.in_ok-report.ensures s.maps ∙ ap (λ (l : List Context). fault_lines Value 1 (dressed s.maps l)) stack in
    ap state_of c.in_ok-fail.ensures.ok
    ∙ missing_is s.maps s.kept s.output k f does s.contexts c.in_ok-report.report.items place.0 c.requires.executes get wants.0 report
    ∙ ap (answered_in s) (sym c.in_default-value.is)
