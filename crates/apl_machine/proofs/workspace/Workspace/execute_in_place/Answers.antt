use Rattle.std.proofs.Common.{◌≡◌, ℤ, List, Ok, sym, ap, ◌∙◌, subst}
use Rattle.apl_arrays.specs.Origins.{origin_number}
use Rattle.apl_arrays.specs.declared.stop.Stop.TheVariants.{Fault}
use Rattle.apl_tokens.specs.Tokens.{tokens_of}
use Rattle.apl_names.specs.Maps.{Map, Text}
use Rattle.apl_machine_state.specs.Outcomes.{executed_by}
use Rattle.apl_machine_state.specs.State.{applied}
use Rattle.apl_machine_state.specs.Changes.{Change}
use Rattle.apl_contexts.specs.Contexts.{lines_in}
use Rattle.apl_contexts.specs.Typed.{IsTyped}
use Rattle.apl_phrases.specs.Effects.{seen}
use Rattle.apl_phrases.specs.declared.phrase.PhraseKind.TheVariants.{Executes}
use Rattle.apl_machine.specs.Changes.{IsExecution}
use Rattle.apl_machine.specs.Spaces.{Space, IsSound, executed_in, state_of}
use Rattle.apl_machine.specs.inside.Next.{FailsBy, IsLineOf, IsMade}
use Rattle.apl_machine.specs.Worlds.{settings}
use Rattle.apl_machine.proofs.InPlace.{executes, fails, sees_names}
use Rattle.apl_machine.proofs.workspace.Workspace.execute_in_place.Goals as goal
use Rattle.apl_machine.proofs.workspace.Workspace.execute_in_place.Goals.{After-left-left}

-- ---- a fault, of an array that is no text, and of a text

pub fail_by-requires-clause-fails : goal.fail_by-requires-clause-fails
fail_by-requires-clause-fails c =
    let s : Space = record { maps = c.self.inside.names; kept = settings c.self.inside.stops c.self.inside.traces (origin_number c.self.inside.io); contexts = c.self.inside.contexts; output = c.self.inside.output.items } in
    let sound : IsSound s = subst IsSound (sym c.self.view_is) c.requires.sound in
    let refused = rw c.in-Err.is at c.in-Some-executed.ensures.is in
    subst (λ (x : Space). FailsBy x (Fault c.in-Err.fault) c.in-Some.phrase.instr.now.at) c.self.view_is
    (fails s c.in-Some.phrase sound c.in-Some.ensures.is Executes c.in-Some-executed.ensures.kind (Fault c.in-Err.fault) (λ lines. refused (seen c.in-Some.phrase.scene lines)))

pub fail_by-requires-in-Err-line_executed-clause-fails : goal.fail_by-requires-in-Err-line_executed-clause-fails
fail_by-requires-in-Err-line_executed-clause-fails c =
    let s : Space = record { maps = c.self.inside.names; kept = settings c.self.inside.stops c.self.inside.traces (origin_number c.self.inside.io); contexts = c.self.inside.contexts; output = c.self.inside.output.items } in
    let sound : IsSound s = subst IsSound (sym c.self.view_is) c.requires.sound in
    let p = c.in-Some.phrase in
    let text = c.in-Ok.text.now in
    let says = rw c.in-Ok.is at c.in-Some-executed.ensures.is in
    let no_line = λ (lines : List ℤ). subst (λ r. IsLineOf p.scene.names.now text (executed_by (seen p.scene lines) text (tokens_of text)) r) c.in-Err-line_executed.is (c.line_executed.ensures p.scene.names.now text lines c.in_ok-read.ensures) in
    fails s p sound c.in-Some.ensures.is Executes c.in-Some-executed.ensures.kind (Fault c.in-Err-line_executed.fault) (λ lines. says (seen p.scene lines) ∙ no_line lines)

-- ---- its line begins

line : (c : After-left-left) → IsLineOf c.in-Some.phrase.scene.names.now c.in-Ok.text.now (executed_by (seen c.in-Some.phrase.scene (lines_in c.self.inside.contexts)) c.in-Ok.text.now (tokens_of c.in-Ok.text.now)) (Ok c.in-Ok-line_executed.line)
line c =
    let p = c.in-Some.phrase in
    let text = c.in-Ok.text.now in
    let lines = lines_in c.self.inside.contexts in
    subst (λ r. IsLineOf p.scene.names.now text (executed_by (seen p.scene lines) text (tokens_of text)) r) c.in-Ok-line_executed.is (c.line_executed.ensures p.scene.names.now text lines c.in_ok-read.ensures)

begins : (c : After-left-left) → IsExecution c.in-Ok.text.now (line c).0 c.left-left.result c.self.inside.names (settings c.self.inside.stops c.self.inside.traces (origin_number c.self.inside.io)) c.self.inside.contexts
begins c =
    let s : Space = record { maps = c.self.inside.names; kept = settings c.self.inside.stops c.self.inside.traces (origin_number c.self.inside.io); contexts = c.self.inside.contexts; output = c.self.inside.output.items } in
    let sound : IsSound s = subst IsSound (sym c.self.view_is) c.requires.sound in
    let p = c.in-Some.phrase in
    let says = rw c.in-Ok.is at c.in-Some-executed.ensures.is in
    executes s p sound c.in-Some.ensures.is Executes c.in-Some-executed.ensures.kind c.left-left.result c.left-left.ensures.within c.left-left.ensures.beneath c.in-Ok.text.now (line c).0 (says (seen p.scene (lines_in s.contexts)) ∙ (line c).3)

pub begin_executed-requires-clause-can : goal.begin_executed-requires-clause-can
begin_executed-requires-clause-can c = (begins (goal.at.begin_executed-requires-clause-can c).After-left-left).can

pub begin_executed-requires-clause-line : goal.begin_executed-requires-clause-line
begin_executed-requires-clause-line c =
    let s : Space = record { maps = c.self.inside.names; kept = settings c.self.inside.stops c.self.inside.traces (origin_number c.self.inside.io); contexts = c.self.inside.contexts; output = c.self.inside.output.items } in
    let p = c.in-Some.phrase in
    let t = line (goal.at.begin_executed-requires-clause-line c).After-left-left in
    let same : c.new-text.result ≡ c.in-Ok.text.now = c.new-text.ensures ∙ c.in_ok-from_slice.ensures.items in
    subst (λ (x : Text). IsTyped s.maps x c.in-Ok-line_executed.line.value.bound) (sym same)
    (subst (λ (ms : List Map). IsTyped ms c.in-Ok.text.now c.in-Ok-line_executed.line.value.bound) (sees_names s p c.in-Some.ensures.is) (t.0, t.1, t.2))

pub returns-clause-made : goal.returns-clause-made
returns-clause-made c =
    let s : Space = record { maps = c.self.inside.names; kept = settings c.self.inside.stops c.self.inside.traces (origin_number c.self.inside.io); contexts = c.self.inside.contexts; output = c.self.inside.output.items } in
    let t = line (goal.at.returns-clause-made c).After-left-left in
    let goes = (begins (goal.at.returns-clause-made c).After-left-left).goes in
    let same : c.new-text.result ≡ c.in-Ok.text.now = c.new-text.ensures ∙ c.in_ok-from_slice.ensures.items in
    let read = ap tokens_of same ∙ t.1.0 in
    subst (λ (x : Space). IsMade x c.begin_executed.new.self) c.self.view_is (record {
      sound = c.begin_executed.ensures.sound;
      state =
          c.in_ok-begin_executed.ensures.ok t.0 read
          ∙ ap (λ (x : Text). executed_in s x t.0 c.left-left.result) same
          ∙ ap (λ (ch : Change). (applied (state_of s) ch).state) (sym goes);
      pace = (ap (λ (ch : Change). (applied (state_of s) ch).stopped) goes, ap (λ (ch : Change). (applied (state_of s) ch).ended) goes);
    })
