use Rattle.std.proofs.Common.{◌+◌, ◌<◌, ◌≤◌, ◌^◌, ℕ, ℤ, pos, w64, FitsSigned, ap, subst, sym, ◌∙◌, arith}
use Rattle.std.proofs.lemmas.Int.{to_z-of_z}
use Rattle.std.specs.Ordering.{int_eq}
use Rattle.std.specs.List.{position_or_len}
use Rattle.apl_arrays.specs.Numbers.{values}
use Rattle.apl_search.proofs.Mapped.{write_next, write_whole, map_numbers, cast_small}
use Rattle.apl_search.proofs.lookup.write_places.Goals as goal

behind : (first n many : ℕ) → first + many < 2 ^ 31 → n ≤ many → first + n < 2 ^ 31
behind first n many small within = omega arith

pub loop-k-preserved : goal.loop-k-preserved
loop-k-preserved g c =
    let value = g.L.Lane.value in
    let among = values c.args.among in
    let item = c.index-sought-k.result in
    let fits : FitsSigned w64 c.wide.result = subst (λ z. FitsSigned w64 z) (sym c.wide.ensures.value) (g.met.L.Lane.bounded _ c.wide.ensures.fits) in
    let same = to_z-of_z w64 c.wide.result fits ∙ c.wide.ensures.value ∙ ap value c.index-sought-k.is in
    let place = c.first_place.ensures.value ∙ ap (λ z. position_or_len (int_eq z) among) same in
    write_next (λ y. pos (c.args.first + position_or_len (int_eq (value y)) among)) c.args.sought.now c.loop-k.k item _ c.loop-k.places (omega arith) (omega arith)
    c.loop-k.invariant (cast_small _ (behind _ _ _ c.requires.small c.first_place.ensures.within) ∙ ap (λ n. pos (c.args.first + n)) place)

pub returns : goal.returns
returns g c =
    let value = g.L.Lane.value in
    let f : ℤ → ℤ = λ y. pos (c.args.first + position_or_len (int_eq y) (values c.args.among)) in
    map_numbers value g.L.Lane.numbers g.met.L.Lane.each f c.args.sought.now c.loop-k.places
    (write_whole (λ y. f (value y)) c.args.sought.now c.loop-k.k c.loop-k.places (omega arith) (omega arith) c.loop-k.invariant)
