use Rattle.std.proofs.Common.{◌≡◌, ◌++◌, drop}
use Rattle.apl_charset.specs.Text.{bytes}
use Rattle.apl_listing.proofs.writing.push_text.Given as goal

abbrev pub invariant-loop-c : goal.invariant-loop-c
invariant-loop-c l = l.out.items ++ bytes (drop l.c-index l.text) ≡ l.initial.out.items ++ bytes l.text
