use Rattle.std.proofs.Common.{◌≡◌, ℕ, ◌<◌, ◌≤◌, length, get_or, pos, Ok, vec_len, vec_capacity}
use Rattle.apl_select.specs.inside.Numbered.{item_numbered}
use Rattle.apl_select.proofs.vector.read_numbered.Given as goal

abbrev pub invariant-loop-k : goal.invariant-loop-k
invariant-loop-k g l = record {
  long : length l.out.items ≡ l.k;
  room : (vec_len l.out ≡ l.k) × (length l.numbers ≤ vec_capacity l.out);
  so_far : (j : ℕ) (d : g.row.T.Denot) → j < l.k → item_numbered l.raw l.origin d (get_or (g.L.Lane.numbers l.numbers) j (pos 0)) ≡ Ok (get_or l.out.items j d);
}
