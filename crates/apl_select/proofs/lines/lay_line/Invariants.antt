use Rattle.std.proofs.Common.{◌≡◌, ◌+◌, ◌++◌, map, take}
use Rattle.std.specs.Option.{option_map}
use Rattle.apl_select.specs.Lined.{item_or}
use Rattle.apl_select.proofs.lines.lay_line.Given as goal

abbrev pub invariant-loop-place : goal.invariant-loop-place
invariant-loop-place g l = l.out.items ≡ l.fn.out.items ++ map (λ o. item_or l.fill l.raw (option_map (λ k. l.first + k) o)) (take l.place-index l.places)
