use Rattle.apl_tokens.proofs.Lengths.{long_name, short_name}
use Rattle.apl_tokens.proofs.measuring.name_len.Goals as goal

pub returns-then-len-gt-MOST : goal.returns-then-len-gt-MOST
returns-then-len-gt-MOST c = λ letter is. long_name letter c.args.after.now c.len-len.result is c.len-len.ensures.is c.if-len-gt-MOST.true

pub returns : goal.returns
returns c = λ letter is. short_name letter c.args.after.now c.len-len.result is c.len-len.ensures.is c.if-len-gt-MOST.false
