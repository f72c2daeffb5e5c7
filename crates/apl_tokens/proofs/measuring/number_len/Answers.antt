use Rattle.apl_tokens.specs.Characters.{class_of, is_digit}
use Rattle.apl_tokens.proofs.Runs.{run_passes}
use Rattle.apl_tokens.proofs.measuring.number_len.Goals as goal

pub magnitude-requires : goal.magnitude-requires
magnitude-requires c = rw (c.split_at.ensures.front, c.len-len.ensures.is) (run_passes (λ x. is_digit (class_of x)) c.args.rest.now)
