use Rattle.std.proofs.Common.{◌≡◌, drop}
use Rattle.apl_session.specs.Commands.{is_word}
use Rattle.apl_session.proofs.commands.is_word.Given as goal

abbrev pub invariant-loop-c : goal.invariant-loop-c
invariant-loop-c l = is_word (drop l.c-index l.word) l.due ≡ is_word l.word l.command
