use Rattle.std.proofs.Common.{◌≡◌, ◌+◌, ◌*◌, ◌≤◌, [], ◌∷◌, drop, length}
use Rattle.std.specs.List.{All}
use Rattle.apl_arrays.specs.Index.{bound_of}
use Rattle.apl_select.specs.Indexing.{joined_shape}
use Rattle.apl_select.specs.inside.Reached.{reached}
use Rattle.apl_select.proofs.reach.starts_of.Given as goal

abbrev pub invariant-loop-k : goal.invariant-loop-k
invariant-loop-k l = record {
  way : reached l.starts.items (drop l.k l.shape) (drop l.k l.picks) ≡ reached (0 ∷ []) l.shape l.picks;
  near : All (λ s. (s + 1) * bound_of (drop l.k l.shape) ≤ 1000000) l.starts.items;
  room : length l.starts.items * bound_of (joined_shape (drop l.k l.picks)) ≤ 1000000;
}
