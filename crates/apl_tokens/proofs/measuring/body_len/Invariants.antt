use Rattle.std.proofs.Common.{◌≡◌, drop, false}
use Rattle.apl_tokens.specs.Reading.{body_at}
use Rattle.apl_tokens.specs.Measures.{body_len}
use Rattle.apl_tokens.proofs.Lengths.{behind}
use Rattle.apl_tokens.proofs.measuring.body_len.Given as goal

abbrev pub invariant-loop-i : goal.invariant-loop-i
invariant-loop-i l = behind l.i (body_at l.quoted (drop l.i l.rest)) ≡ body_len (body_at false l.rest)
