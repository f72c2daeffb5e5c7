use Rattle.std.proofs.Common.{◌≡◌, ℕ, ◌+◌, ◌<◌, List, [], take, drop, reverse, Some, sym, ap, ◌∙◌, arith}
use Rattle.std.specs.List.{slice_get}
use Rattle.apl_code.specs.declared.instr.Instr.{Instr}
use Rattle.apl_listing.specs.declared.stack.Kind.{Kind}
use Rattle.apl_listing.specs.Kinds.{after, kinds}
use Rattle.apl_listing.proofs.Lists.{got_drop, got_take}
use Rattle.apl_listing.proofs.stack.kinds.Goals as goal

-- one instruction more
kinds_more : (code : List Instr) (count k : ℕ) (i : Instr) (stack next all : List Kind) → k < count → slice_get code k ≡ Some i → next ≡ after i stack → kinds stack (drop k (take count code)) ≡ all → kinds next (drop (k + 1) (take count code)) ≡ all
kinds_more code count k i stack next all lt got e all_is =
    ap (λ s. kinds s (drop (k + 1) (take count code))) e
    ∙ sym (ap (kinds stack) (got_drop (take count code) k i (got_take code count k lt ∙ got)))
    ∙ all_is

pub loop-k-preserved : goal.loop-k-preserved
loop-k-preserved c = kinds_more c.args.code.now c.args.count c.loop-k.k c.instruction.result.now (reverse c.loop-k.stack.items) (reverse c.step.new.stack.items) (kinds [] (take c.args.count c.args.code.now)) (omega arith) c.instruction.ensures c.in_ok-step.ensures c.loop-k.invariant
