use Rattle.std.proofs.Common.{ℤ, w64, FitsSigned, ap, subst, sym, ◌∙◌, arith}
use Rattle.std.proofs.lemmas.Int.{to_z-of_z}
use Rattle.std.specs.Ordering.{int_eq}
use Rattle.std.specs.List.{list_any}
use Rattle.apl_arrays.specs.Numbers.{values}
use Rattle.apl_scalar.specs.Functions.{number_of}
use Rattle.apl_search.proofs.Lookups.{kept}
use Rattle.apl_search.proofs.Mapped.{write_next, write_whole, map_numbers}
use Rattle.apl_search.proofs.lookup.write_verdicts.Goals as goal

pub loop-k-preserved : goal.loop-k-preserved
loop-k-preserved g c =
    let value = g.L.Lane.value in
    let among = values c.args.among in
    let item = c.index-sought-k.result in
    let fits : FitsSigned w64 c.wide.result = subst (λ z. FitsSigned w64 z) (sym c.wide.ensures.value) (g.met.L.Lane.bounded _ c.wide.ensures.fits) in
    let same = to_z-of_z w64 c.wide.result fits ∙ c.wide.ensures.value ∙ ap value c.index-sought-k.is in
    let verdict = c.has.ensures ∙ ap (λ z. list_any (int_eq z) among) same in
    write_next (λ x. number_of (list_any (int_eq (value x)) among)) c.args.sought.now c.loop-k.k item _ c.loop-k.verdicts (omega arith) (omega arith)
    c.loop-k.invariant (kept c.has.result c.from.result c.from.ensures ∙ ap number_of verdict)

pub returns : goal.returns
returns g c =
    let value = g.L.Lane.value in
    let f : ℤ → ℤ = λ x. number_of (list_any (int_eq x) (values c.args.among)) in
    map_numbers value g.L.Lane.numbers g.met.L.Lane.each f c.args.sought.now c.loop-k.verdicts
    (write_whole (λ x. f (value x)) c.args.sought.now c.loop-k.k c.loop-k.verdicts (omega arith) (omega arith) c.loop-k.invariant)
