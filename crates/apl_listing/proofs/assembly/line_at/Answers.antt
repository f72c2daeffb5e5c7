use Rattle.std.proofs.Common.{◌≡◌, List, ℕ, ◌∙◌}
use Rattle.apl_charset.specs.Text.{IsLine}
use Rattle.apl_code.specs.declared.instr.Instr.{Instr}
use Rattle.apl_code.specs.Instr.{IsInstr}
use Rattle.apl_listing.specs.Listing.{body}
use Rattle.apl_listing.proofs.Choices.{of_some, of_none}
use Rattle.apl_listing.proofs.Found.{line_is, text_is}
use Rattle.apl_listing.proofs.assembly.line_at.Goals as goal

pub returns-in_default-clause-none : goal.returns-in_default-clause-none
returns-in_default-clause-none c i h e =
    of_none c.in_ok-text.field-0 ((text : List ℕ) → IsLine c.args.first.now text → ⊥) c.in_default.is c.in_ok-text.ensures.none (body c.args.number i) (line_is c.args.number i c.args.first.now c.ranges.number.fits h e)

pub returns-clause-none : goal.returns-clause-none
returns-clause-none c i h e =
    let l = of_some c.in_ok-text.field-0 c.in-Some.text (λ v. IsLine c.args.first.now v.items) c.in-Some.is c.in_ok-text.ensures.found in
    of_none c.in_ok-instr.field-0 ((j : Instr) → IsInstr j → c.as_slice.result.now ≡ body c.args.number j → ⊥) c.in-None.is c.in_ok-instr.ensures.none i h (c.as_slice.ensures.value ∙ text_is c.args.number i c.args.first.now c.in-Some.text.items l e)
