use Rattle.std.proofs.Common.{◌≡◌, ◌++◌, length, option_map}
use Rattle.apl_session.specs.Commands.{names_in, words_of}
use Rattle.apl_session.proofs.words.names_in.Given as goal

abbrev pub invariant-loop-word : goal.invariant-loop-word
invariant-loop-word l = option_map (λ more. l.names.items ++ more) (names_in (words_of l.rest)) ≡ names_in (words_of l.fn.text)

abbrev pub decreases-loop-word : goal.decreases-loop-word
decreases-loop-word l = length l.rest
