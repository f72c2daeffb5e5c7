use Rattle.apl_charset.proofs.Digits.{decimal_prints}
use Rattle.apl_charset.proofs.text.push_number.Goals as goal

pub push_ascii-requires : goal.push_ascii-requires
push_ascii-requires c = rw (c.as_bytes.ensures.value, c.format.ensures.text) (decimal_prints c.args.number c.ranges.number.fits)
