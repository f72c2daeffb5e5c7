use Rattle.std.proofs.Common.{arith}
use Rattle.apl_listing.proofs.Lines.{no_end_more}
use Rattle.apl_listing.proofs.assembly.split_line.Goals as goal

pub loop-i-preserved : goal.loop-i-preserved
loop-i-preserved c = no_end_more c.args.text.now c.loop-i.i (omega arith) c.loop-i.invariant c.if-text-i-eq10.false
