use Rattle.std.proofs.Common.{◌≡◌, ◌++◌, drop, length}
use Rattle.apl_tokens.specs.Plain.{plain, plain_behind}
use Rattle.apl_tokens.proofs.writing.written.Given as goal

abbrev pub invariant-loop-token : goal.invariant-loop-token
invariant-loop-token l = l.text.items ++ plain_behind (length l.text.items) l.named (drop l.token-index l.tokens) ≡ plain l.tokens
