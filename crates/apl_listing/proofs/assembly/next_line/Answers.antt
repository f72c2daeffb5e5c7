use Rattle.std.proofs.Common.{◌≡◌, sym, ◌∙◌}
use Rattle.apl_charset.specs.Text.{bytes}
use Rattle.apl_code.specs.declared.instr.Instr.{Instr}
use Rattle.apl_code.specs.Instr.{IsInstr}
use Rattle.apl_listing.specs.Listing.{body}
use Rattle.apl_listing.proofs.Choices.{of_some, of_none}
use Rattle.apl_listing.proofs.Found.{found_line}
use Rattle.apl_listing.proofs.Lines.{no_line, first_line}
use Rattle.apl_listing.proofs.assembly.next_line.Goals as goal

pub returns-in_default-clause-none : goal.returns-in_default-clause-none
returns-in_default-clause-none c i rest h e = no_line c.args.number i c.args.text.now rest c.in_default.ensures e

pub returns-in-Some-2-clause-found : goal.returns-in-Some-2-clause-found
returns-in-Some-2-clause-found c =
    let f = of_some c.in_ok-instr.field-0 c.in-Some-2.instr (λ i. IsInstr i × (c.in-Some.first.now ≡ bytes (body c.args.number i))) c.in-Some-2.is c.in_ok-instr.ensures.found in
    found_line c.args.number c.in-Some-2.instr c.args.text.now c.in-Some.first.now c.in-Some.field-0-1.now c.in-Some.ensures.1 f.0 f.1

pub returns-in-None-clause-none : goal.returns-in-None-clause-none
returns-in-None-clause-none c i rest h e =
    of_none c.in_ok-instr.field-0 ((j : Instr) → IsInstr j → c.in-Some.first.now ≡ bytes (body c.args.number j) → ⊥) c.in-None.is c.in_ok-instr.ensures.none i h (first_line c.args.number i c.in-Some.first.now c.in-Some.field-0-1.now rest c.ranges.number.fits h c.in-Some.ensures.0 (sym c.in-Some.ensures.1 ∙ e))
