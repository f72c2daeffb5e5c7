use Rattle.std.proofs.Common.{◌≡◌, take}
use Rattle.apl_charset.proofs.text.is_word.Given as goal

abbrev pub invariant-loop-i : goal.invariant-loop-i
invariant-loop-i l = take l.i l.text ≡ take l.i l.word
