use Rattle.std.proofs.Common.{arith}
use Rattle.std.proofs.lemmas.Int.{ints}
use Rattle.apl_phrases.proofs.Marks.{none_marked, one_marked, past_marked}
use Rattle.apl_phrases.proofs.lines_among.mark.Goals as goal

pub returns-then-number-lt1 : goal.returns-then-number-lt1
returns-then-number-lt1 c = none_marked c.args.number c.args.marks.now (omega (arith, ints))

pub returns-then-line-marks : goal.returns-then-line-marks
returns-then-line-marks c = one_marked c.args.number _ c.args.marks.now (omega (arith, ints))

pub returns-else-line-marks : goal.returns-else-line-marks
returns-else-line-marks c = past_marked c.args.number c.args.marks.now (omega (arith, ints))
