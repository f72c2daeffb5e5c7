use Rattle.std.proofs.Common.{◌≡◌, ◌+◌, ◌++◌, ◌∷◌, [], ℤ, List, length, pos, to_z, w32, map, ap, sym, ◌∙◌, arith}
use Rattle.std.specs.List.{range_with_len}
use Rattle.std.proofs.lemmas.List.{take_all, take_more_set}
use Rattle.std.proofs.lemmas.List.FromFn.{map-range_with_len_more}
use Rattle.apl_search.proofs.Mapped.{cast_small}
use Rattle.apl_search.proofs.counting.count_up.Goals as goal

pub loop-k-preserved : goal.loop-k-preserved
loop-k-preserved c =
    let k = c.loop-k.k in
    let first = c.args.first in
    take_more_set c.loop-k.numbers k (to_z w32 (first + k)) (omega arith)
    ∙ ap (λ (l : List ℤ). l ++ to_z w32 (first + k) ∷ []) c.loop-k.invariant
    ∙ ap (λ (z : ℤ). map pos (range_with_len first k) ++ z ∷ []) (cast_small (first + k) (omega arith))
    ∙ sym (map-range_with_len_more pos first k (first + k) (omega arith))

pub returns : goal.returns
returns c =
    let all : c.loop-k.k ≡ length c.args.numbers.now = omega arith in
    sym (take_all c.loop-k.k c.loop-k.numbers (omega arith)) ∙ c.loop-k.invariant ∙ ap (λ n. map pos (range_with_len c.args.first n)) all
