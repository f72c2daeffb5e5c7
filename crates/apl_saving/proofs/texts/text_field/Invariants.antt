use Rattle.std.proofs.Common.{take}
use Rattle.std.specs.Prelude.{string_bytes}
use Rattle.apl_charset.specs.Text.{IsLine}
use Rattle.apl_saving.proofs.texts.text_field.Given as goal

abbrev pub invariant-loop-c : goal.invariant-loop-c
invariant-loop-c l = IsLine (string_bytes l.written) (take l.c-index l.text)
