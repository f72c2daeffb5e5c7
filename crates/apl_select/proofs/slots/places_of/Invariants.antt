use Rattle.std.proofs.Common.{◌≡◌, ◌-◌, pos, length, get_or}
use Rattle.std.specs.List.{range_with_len}
use Rattle.apl_arrays.specs.Results.{all_ok}
use Rattle.apl_arrays.proofs.InTurn.{after}
use Rattle.apl_select.specs.Indexing.{place_numbered}
use Rattle.apl_select.proofs.slots.places_of.Given as goal

abbrev pub invariant-loop-k : goal.invariant-loop-k
invariant-loop-k g l =
    let zs = g.L.Lane.numbers l.numbers in
    after l.places.items (all_ok (λ k. place_numbered l.len l.origin (get_or zs k (pos 0))) (range_with_len l.k (length zs - l.k))) ≡ all_ok (place_numbered l.len l.origin) zs
