use Rattle.std.proofs.Common.{◌≡◌, ◌≤◌, [], option_map, sym, ap, ◌∙◌, subst}
use Rattle.apl_arrays.specs.Origins.{origin_number}
use Rattle.apl_machine_state.specs.Outcomes.{Becomes}
use Rattle.apl_contexts.specs.Contexts.{lines_in, standing}
use Rattle.apl_phrases.specs.declared.phrase.PhraseKind.TheVariants.{Systems}
use Rattle.apl_phrases.specs.Effects.{outcome_of, seen}
use Rattle.apl_machine.specs.Spaces.{Space}
use Rattle.apl_machine.proofs.Few.{few_calls, few_watched}
use Rattle.apl_machine.proofs.InPlace.{asks, assigns, fails, gives, sets}
use Rattle.apl_machine.proofs.workspace.Workspace.system_in_place.Goals as goal

pub fail_by-requires-clause-fails : goal.fail_by-requires-clause-fails
fail_by-requires-clause-fails c =
    fails c.args.self.now c.in-Some.phrase c.requires.sound c.in-Some.ensures.is Systems c.in-Some-effect_of.ensures.kind c.in-Err.stop (rw c.in-Err.is at c.in-Some-effect_of.ensures.is)

pub give-requires : goal.give-requires
give-requires c =
    let s = c.args.self.now in
    let does = rw c.in-Gives.is at (rw c.in-Ok.is at c.in-Some-effect_of.ensures.is) in
    gives s c.in-Some.phrase c.requires.sound c.in-Some.ensures.is Systems c.in-Some-effect_of.ensures.kind c.left-left.result c.left-left.ensures.within c.left-left.ensures.beneath c.in-Gives.array (does (lines_in s.contexts))

pub line_counter-requires : goal.line_counter-requires
line_counter-requires c = record {
  few = subst (λ (x : Space). standing x.contexts ≤ 256) (sym c.self.view_is) (few_calls c.args.self.now (record { sound = c.requires.sound; kept = c.requires.kept }));
}

pub give-requires-in-GivesLineNumbers : goal.give-requires-in-GivesLineNumbers
give-requires-in-GivesLineNumbers c =
    let s = c.args.self.now in
    let does = rw c.in-GivesLineNumbers.is at (rw c.in-Ok.is at c.in-Some-effect_of.ensures.is) in
    gives s c.in-Some.phrase c.requires.sound c.in-Some.ensures.is Systems c.in-Some-effect_of.ensures.kind c.left-left.result c.left-left.ensures.within c.left-left.ensures.beneath c.in_ok-numbers-in-GivesLineNumbers.numbers
    (subst (λ (x : Space). outcome_of c.in-Some.phrase (seen c.in-Some.phrase.scene (lines_in x.contexts)) ≡ Becomes c.in_ok-numbers-in-GivesLineNumbers.numbers) c.self.view_is (does (lines_in c.self.inside.contexts) ∙ ap Becomes (sym c.in_ok-numbers-in-GivesLineNumbers.ensures)))

pub ask-requires-clause-asks : goal.ask-requires-clause-asks
ask-requires-clause-asks c =
    let does = rw c.in-Asks.is at (rw c.in-Ok.is at c.in-Some-effect_of.ensures.is) in
    asks c.args.self.now c.in-Some.phrase c.requires.sound c.in-Some.ensures.is Systems c.in-Some-effect_of.ensures.kind c.left-left.result c.left-left.ensures.within c.left-left.ensures.beneath c.in-Asks.which c.in-Asks.name (option_map (λ v. v.items) c.in-Asks.lines) (λ ns. (does ns).0)

pub ask-requires-clause-new : goal.ask-requires-clause-new
ask-requires-clause-new c = ((rw c.in-Asks.is at (rw c.in-Ok.is at c.in-Some-effect_of.ensures.is)) []).1

pub ask-requires-clause-few : goal.ask-requires-clause-few
ask-requires-clause-few c = few_watched c.in-Asks.which c.args.self.now c.in-Asks.name c.requires.kept

pub last_operand-requires-clause-value : goal.last_operand-requires-clause-value
last_operand-requires-clause-value c =
    let does = rw c.in-Assigns.is at (rw c.in-Ok.is at c.in-Some-effect_of.ensures.is) in
    record { value = (does []).0; last = (does []).1 }

pub assign-requires : goal.assign-requires
assign-requires c =
    assigns c.args.self.now c.in-Some.phrase c.requires.sound c.in-Some.ensures.is Systems c.in-Some-effect_of.ensures.kind c.in_ok-given-in-Assigns.given c.in_ok-given-in-Assigns.left c.in_ok-given-in-Assigns.ensures.within c.in_ok-given-in-Assigns.ensures.value c.in-Assigns.name c.in-Assigns.array (rw c.in-Assigns.is at (rw c.in-Ok.is at c.in-Some-effect_of.ensures.is))

pub last_operand-requires-in-SetsOrigin-clause-value : goal.last_operand-requires-in-SetsOrigin-clause-value
last_operand-requires-in-SetsOrigin-clause-value c =
    let does = rw c.in-SetsOrigin.is at (rw c.in-Ok.is at c.in-Some-effect_of.ensures.is) in
    record { value = (does []).0; last = (does []).1 }

pub set_origin-requires : goal.set_origin-requires
set_origin-requires c =
    sets c.args.self.now c.in-Some.phrase c.requires.sound c.in-Some.ensures.is Systems c.in-Some-effect_of.ensures.kind c.in_ok-given-in-SetsOrigin.given c.in_ok-given-in-SetsOrigin.left c.in_ok-given-in-SetsOrigin.ensures.within c.in_ok-given-in-SetsOrigin.ensures.value (origin_number c.in-SetsOrigin.origin) (rw c.in-SetsOrigin.is at (rw c.in-Ok.is at c.in-Some-effect_of.ensures.is))
