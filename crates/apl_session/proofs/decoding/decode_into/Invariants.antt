use Rattle.std.proofs.Common.{◌≡◌, ◌++◌, length}
use Rattle.apl_charset.specs.Text.{IsText, bytes}
use Rattle.apl_session.proofs.decoding.decode_into.Given as goal

-- the line is what was decoded and what is left
abbrev pub invariant-loop-rest : goal.invariant-loop-rest
invariant-loop-rest l = record { parts : l.line ≡ bytes l.text.items ++ l.rest; in_set : IsText l.text.items }

abbrev pub decreases-loop-rest : goal.decreases-loop-rest
decreases-loop-rest l = length l.rest
