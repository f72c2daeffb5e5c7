use Rattle.std.proofs.Common.{◌≡◌, ◌++◌, map, length}
use Rattle.apl_listing.specs.inside.Reading.{words, source_of}
use Rattle.apl_listing.proofs.reading.sources_of.Given as goal

abbrev pub invariant-loop-text : goal.invariant-loop-text
invariant-loop-text l = l.sources.items ++ map source_of (words l.text) ≡ map source_of (words l.initial.text)

abbrev pub decreases-loop-text : goal.decreases-loop-text
decreases-loop-text l = length l.text
