use Rattle.std.proofs.Common.{◌≡◌, map, take, get_or}
use Rattle.apl_select.specs.inside.Reached.{crossed}
use Rattle.apl_select.proofs.reach.ReadingStructural.make.Given as goal

abbrev pub invariant-loop-start : goal.invariant-loop-start
invariant-loop-start g l = (d : g.row.T.Denot) → l.out.items ≡ map (λ q. get_or l.items q d) (crossed (take l.start-index l.self.starts.now) l.self.len l.self.places.now)
