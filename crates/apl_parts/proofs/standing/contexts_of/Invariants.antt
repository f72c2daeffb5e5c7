use Rattle.std.proofs.Common.{◌≡◌, ◌-◌, ◌≤◌, length, map, vec_len}
use Rattle.apl_contexts.specs.Contexts.{dressed}
use Rattle.apl_parts.specs.Taken.{part_of}
use Rattle.apl_parts.proofs.Told.{told_with}
use Rattle.apl_parts.proofs.standing.contexts_of.Given as goal

abbrev pub invariant-loop-context : goal.invariant-loop-context
invariant-loop-context l = record {
  scope : l.scope ≤ vec_len l.parts;
  told : told_with l.names l.contexts l.parts.items l.scope (vec_len l.parts) ≡ map part_of (dressed l.names l.contexts);
}

abbrev pub decreases-loop-context : goal.decreases-loop-context
decreases-loop-context l = length l.contexts - vec_len l.parts
