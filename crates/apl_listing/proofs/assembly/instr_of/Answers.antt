use Rattle.std.proofs.Common.{◌≡◌, ◌++◌, Some, None, sym, ap, ◌∙◌, subst}
use Rattle.apl_code.specs.Instr.{IsInstr}
use Rattle.apl_listing.specs.Listing.{body}
use Rattle.apl_listing.proofs.Found.{is_read, same_text, other_text}
use Rattle.apl_listing.proofs.assembly.instr_of.Goals as goal

pub returns-in_default-clause-none : goal.returns-in_default-clause-none
returns-in_default-clause-none c i h e =
    let n : None ≡ Some i = sym c.in_default.is ∙ is_read c.args.number c.args.text.now c.split.result.1.now c.in_ok-instr.field-0 c.ranges.number.fits c.split.ensures.after c.in_ok-instr.ensures i h e in
    cc

pub returns-then-not-is_instr-clause-none : goal.returns-then-not-is_instr-clause-none
returns-then-not-is_instr-clause-none c i h e =
    let s : Some c.in-Some.instr ≡ Some i = sym c.in-Some.is ∙ is_read c.args.number c.args.text.now c.split.result.1.now c.in_ok-instr.field-0 c.ranges.number.fits c.split.ensures.after c.in_ok-instr.ensures i h e in
    let t : c.in-Some.instr ≡ i = cc in
    c.if-not-is_instr.ensures (subst IsInstr (sym t) h)

pub returns-then-eq-clause-found : goal.returns-then-eq-clause-found
returns-then-eq-clause-found c =
    let w : c.as_slice.result.now ≡ body c.args.number c.in-Some.instr = c.as_slice.ensures.value ∙ c.in_ok-push_body.ensures ∙ ap (λ o. o ++ body c.args.number c.in-Some.instr) c.new-printed.ensures.items in
    (c.if-not-is_instr.ensures, sym (same_text c.as_slice.result.now c.args.text.now (sym c.if-eq.true ∙ c.eq.ensures)) ∙ w)

pub returns-else-eq-clause-none : goal.returns-else-eq-clause-none
returns-else-eq-clause-none c i h e =
    let s : Some c.in-Some.instr ≡ Some i = sym c.in-Some.is ∙ is_read c.args.number c.args.text.now c.split.result.1.now c.in_ok-instr.field-0 c.ranges.number.fits c.split.ensures.after c.in_ok-instr.ensures i h e in
    let t : c.in-Some.instr ≡ i = cc in
    let w : c.as_slice.result.now ≡ body c.args.number c.in-Some.instr = c.as_slice.ensures.value ∙ c.in_ok-push_body.ensures ∙ ap (λ o. o ++ body c.args.number c.in-Some.instr) c.new-printed.ensures.items in
    other_text c.as_slice.result.now c.args.text.now (sym c.if-eq.false ∙ c.eq.ensures) (w ∙ ap (body c.args.number) t ∙ sym e)
