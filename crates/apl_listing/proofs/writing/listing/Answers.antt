use Rattle.std.proofs.Common.{◌≡◌, ℕ, ◌+◌, List, ◌++◌, drop, Some, sym, ap, ◌∙◌, append_assoc}
use Rattle.std.specs.List.{slice_get}
use Rattle.apl_code.specs.declared.instr.Instr.{Instr}
use Rattle.apl_listing.specs.Listing.{line, listed}
use Rattle.apl_listing.proofs.Lists.{got_drop}
use Rattle.apl_listing.proofs.writing.listing.Goals as goal

-- one line more
line_more : (code : List Instr) (n : ℕ) (i : Instr) (out all : List ℕ) → slice_get code n ≡ Some i → out ++ listed n (drop n code) ≡ all → (out ++ line n i) ++ listed (n + 1) (drop (n + 1) code) ≡ all
line_more code n i out all got all_is = append_assoc out (line n i) (listed (n + 1) (drop (n + 1) code)) ∙ sym (ap (λ is. out ++ listed n is) (got_drop code n i got)) ∙ all_is

pub loop-number-preserved : goal.loop-number-preserved
loop-number-preserved c =
    let n = c.loop-number.number in
    let rest = listed (n + 1) (drop (n + 1) c.args.code.now) in
    ap (λ o. o ++ rest) c.in_ok-push_line.ensures ∙ line_more c.args.code.now n c.instruction.result.now c.loop-number.out.items (listed 0 c.args.code.now) c.instruction.ensures c.loop-number.invariant
