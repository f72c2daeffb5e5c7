use Rattle.std.proofs.Common.{◌≡◌, ◌-◌, map, pos}
use Rattle.std.specs.List.{range_with_len}
use Rattle.apl_arrays.specs.Results.{all_ok}
use Rattle.apl_arrays.proofs.InTurn.{after}
use Rattle.apl_search.specs.Decoded.{valued}
use Rattle.apl_search.specs.inside.Flat.{pair_at}
use Rattle.apl_search.proofs.decoding.values_of.Given as goal

-- the values so far, before those that are left
abbrev pub invariant-loop-place : goal.invariant-loop-place
invariant-loop-place l =
    after l.out.items (all_ok (λ p. valued (pos 0) (map (pair_at l.bases l.digits l.along l.width p) (range_with_len 0 l.count))) (range_with_len l.place (l.width - l.place)))
    ≡ all_ok (λ p. valued (pos 0) (map (pair_at l.bases l.digits l.along l.width p) (range_with_len 0 l.count))) (range_with_len 0 l.width)
