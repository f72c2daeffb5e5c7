use Rattle.std.proofs.Common.{◌≡◌, ◌++◌}
use Rattle.apl_charset.specs.Text.{IsText, bytes}
use Rattle.apl_loading.proofs.texts.text_of.Given as goal

-- the text is what was decoded and what is left
abbrev pub invariant-loop-c : goal.invariant-loop-c
invariant-loop-c l = record { parts : l.string ≡ bytes l.found.items ++ l.chars.rest.now; in_set : IsText l.found.items }
