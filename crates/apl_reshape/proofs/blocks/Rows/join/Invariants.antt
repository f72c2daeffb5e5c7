use Rattle.std.proofs.Common.{◌≡◌}
use Rattle.std.specs.List.{flat_map, range_with_len}
use Rattle.apl_reshape.specs.inside.Rows.{blocks, item_at}
use Rattle.apl_reshape.proofs.blocks.Rows.join.Given as goal

abbrev pub invariant-loop-row : goal.invariant-loop-row
invariant-loop-row g l = (d : g.row.T.Denot) → l.out.items ≡ flat_map (blocks (item_at l.self.x.is_scalar l.xs d) (item_at l.self.y.is_scalar l.ys d) l.self.x.len l.self.y.len) (range_with_len 0 l.row)
