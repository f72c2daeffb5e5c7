use Rattle.std.proofs.Common.{rules, ◌≡◌, Some, ap, sym, ◌∙◌}
use Rattle.std.specs.Prelude.{option_copied}
use Rattle.apl_code.specs.Code.{is_end}
use Rattle.apl_frames.specs.declared.frame.Stage.TheVariants.{Emptied}
use Rattle.apl_frames.specs.Ends.{has_place}
use Rattle.apl_frames.proofs.Standing.{at_end, no_both}
use Rattle.apl_phrases.specs.Kinds.{phrase_kind}
use Rattle.apl_machine.proofs.Steps.{is_ready, fetches_value, emptied_there, end_is, empties_well, ends_well, kind_there}
use Rattle.apl_machine.specs.Worlds.{settings}
use Rattle.apl_machine.proofs.departure.next_step.Goals as goal

pub returns-in-Box : goal.returns-in-Box
returns-in-Box c =
    let line = c.in-Some.line.now in
    let does = sym c.line.ensures ∙ ap option_copied c.in-Some.is in
    let ready = is_ready c.args.contexts.now line c.requires.stacked does (λ (e : line.stage ≡ Emptied). no_both (rw (c.stage.ensures ∙ e) at c.if-eq.ensures)) in
    kind_there c.args.contexts.now line c.next-instr.result.now does ready c.next-instr.ensures.next ∙ ap phrase_kind c.in-Box.is

pub returns-in-Phrase : goal.returns-in-Phrase
returns-in-Phrase c =
    let line = c.in-Some.line.now in
    let does = sym c.line.ensures ∙ ap option_copied c.in-Some.is in
    let ready = is_ready c.args.contexts.now line c.requires.stacked does (λ (e : line.stage ≡ Emptied). no_both (rw (c.stage.ensures ∙ e) at c.if-eq.ensures)) in
    kind_there c.args.contexts.now line c.next-instr.result.now does ready c.next-instr.ensures.next ∙ ap phrase_kind c.in-Phrase.is ∙ ap Some (sym c.row_kind.ensures)

pub leaving-requires-clause-value : goal.leaving-requires-clause-value
leaving-requires-clause-value c =
    let line = c.in-Some.line.now in
    let i = c.next-instr.result.now in
    let does = sym c.line.ensures ∙ ap option_copied c.in-Some.is in
    let ready = is_ready c.args.contexts.now line c.requires.stacked does (λ (e : line.stage ≡ Emptied). no_both (rw (c.stage.ensures ∙ e) at c.if-eq.ensures)) in
    let e = at_end line i c.next-instr.ensures.stands ready c.next-instr.ensures.next (ap is_end c.in-End.is) in
    λ h. rw (c.constants.ensures, c.operands.ensures) (fetches_value line i c.in-End.ending e c.in-End.is h)

pub leaving-requires-clause-placed : goal.leaving-requires-clause-placed
leaving-requires-clause-placed c =
    let line = c.in-Some.line.now in
    let i = c.next-instr.result.now in
    let does = sym c.line.ensures ∙ ap option_copied c.in-Some.is in
    let ready = is_ready c.args.contexts.now line c.requires.stacked does (λ (e : line.stage ≡ Emptied). no_both (rw (c.stage.ensures ∙ e) at c.if-eq.ensures)) in
    let e = at_end line i c.next-instr.ensures.stands ready c.next-instr.ensures.next (ap is_end c.in-End.is) in
    λ h. e.placed (ap has_place (end_is line i c.in-End.ending e c.in-End.is) ∙ h)

pub returns : goal.returns
returns c =
    let line = c.in-Some.line.now in
    let i = c.next-instr.result.now in
    let cs = c.args.contexts.now in
    let does = sym c.line.ensures ∙ ap option_copied c.in-Some.is in
    let ready = is_ready cs line c.requires.stacked does (λ (e : line.stage ≡ Emptied). no_both (rw (c.stage.ensures ∙ e) at c.if-eq.ensures)) in
    let e = at_end line i c.next-instr.ensures.stands ready c.next-instr.ensures.next (ap is_end c.in-End.is) in (
      kind_there cs line i does ready c.next-instr.ensures.next ∙ ap phrase_kind c.in-End.is,
      λ ms stops origin sound. ends_well ms (settings stops c.args.traces.now origin) cs line sound does i c.in-End.ending c.in_ok-departure-2.departure c.constants.result.now c.operands.result.now e c.in-End.is c.constants.ensures c.operands.ensures c.in_ok-departure-2.ensures,
    )

pub returns-then-eq : goal.returns-then-eq
returns-then-eq c =
    let line = c.in-Some.line.now in
    let cs = c.args.contexts.now in
    let does = sym c.line.ensures ∙ ap option_copied c.in-Some.is in
    let emptied : line.stage ≡ Emptied = search rules in (
      emptied_there cs line does emptied,
      λ ms stops origin sound. empties_well ms (settings stops c.args.traces.now origin) cs line sound does c.in_ok-departure.departure emptied c.in_ok-departure.ensures,
    )
