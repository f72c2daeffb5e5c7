-- What the reader had is what the hasher has taken, and what is left.
use Rattle.std.proofs.Common.{IfSome}
use Rattle.apl_files.specs.Content.{IsFed}
use Rattle.apl_files.proofs.content.digest_of.Given as goal

abbrev pub invariant-loop : goal.invariant-loop
invariant-loop g l = IfSome (g.R.Read.remaining l.initial.reader) (λ bytes. IsFed bytes (g.R.Read.remaining l.reader) l.hasher)
