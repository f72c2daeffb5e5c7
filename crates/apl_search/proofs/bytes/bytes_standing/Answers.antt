use Rattle.std.proofs.Common.{ℤ, pos, get_or, FitsSigned, w8, w64, ap, ◌∙◌, rules, arith}
use Rattle.std.specs.Ordering.{int_eq}
use Rattle.std.specs.List.{list_any}
use Rattle.apl_scalar.specs.Functions.{number_of}
use Rattle.apl_search.proofs.Slots.{slot_is, stands}
use Rattle.apl_search.proofs.Lookups.{kept}
use Rattle.apl_search.proofs.Mapped.{write_next, write_whole}
use Rattle.apl_search.proofs.bytes.bytes_standing.Goals as goal

pub loop-k-preserved : goal.loop-k-preserved
loop-k-preserved c =
    let y = get_or c.args.sought.now c.loop-k.k (pos 0) in
    let fits : FitsSigned w8 y = search rules in
    let wide : FitsSigned w64 c.from.result = search rules in
    let slot = slot_is c.slot-slot.result y c.from.result fits wide c.from.ensures c.slot-slot.ensures in
    let verdict = stands c.mark.new.marks c.args.among.now c.slot-slot.result y c.mark.ensures c.mark.auto.marks fits slot in
    write_next (λ (x : ℤ). number_of (list_any (int_eq x) c.args.among.now)) c.args.sought.now c.loop-k.k (pos 0) _ c.loop-k.verdicts (omega arith) (omega arith)
    c.loop-k.invariant (kept _ c.from-in-loop-k.result c.from-in-loop-k.ensures ∙ ap number_of verdict)

pub returns : goal.returns
returns c =
    write_whole (λ (x : ℤ). number_of (list_any (int_eq x) c.args.among.now)) c.args.sought.now c.loop-k.k c.loop-k.verdicts (omega arith) (omega arith) c.loop-k.invariant
