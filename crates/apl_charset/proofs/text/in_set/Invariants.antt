use Rattle.std.proofs.Common.{take}
use Rattle.apl_charset.specs.Text.{IsText}
use Rattle.apl_charset.proofs.text.in_set.Given as goal

abbrev pub invariant-loop-c : goal.invariant-loop-c
invariant-loop-c l = IsText (take l.c-index l.text)
