use Rattle.std.proofs.Common.{◌∷◌, ◌<◌, length, List, ℕ, sym, ap, arith}
use Rattle.apl_defn.specs.Listing.{canonical}
use Rattle.apl_kept.proofs.Sources.{next_line}
use Rattle.apl_kept.proofs.names.source.Goals as goal

pub loop-i-preserved : goal.loop-i-preserved
loop-i-preserved c =
    let more : c.loop-i.i < length c.args.definition.now.lines = omega (arith, c.loop-i-test.true, c.len-i-end.ensures.value) in
    rw (c.in_ok-push-2.ensures.items, c.loop-i.invariant, c.in_ok-line_at.ensures)
    (ap (λ (lines : List (List ℕ)). canonical c.args.definition.now.header ∷ lines) (sym (next_line c.args.definition.now c.loop-i.i more)))
