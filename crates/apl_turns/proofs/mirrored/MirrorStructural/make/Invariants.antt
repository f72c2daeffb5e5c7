use Rattle.std.proofs.Common.{◌≡◌, ◌*◌, ◌≤◌, length, map, get_or, vec_capacity, vec_len}
use Rattle.std.specs.List.{range_with_len}
use Rattle.apl_turns.specs.inside.Mirrored.{mirror}
use Rattle.apl_turns.proofs.mirrored.MirrorStructural.make.Given as goal

abbrev pub invariant-loop-line : goal.invariant-loop-line
invariant-loop-line g l = record {
  count : vec_len l.out ≡ l.line * l.self.size;
  room : length l.items ≤ vec_capacity l.out;
  so_far : (d : g.row.T.Denot) → l.out.items ≡ map (λ place. get_or l.items (mirror l.self.size place) d) (range_with_len 0 (l.line * l.self.size));
}
