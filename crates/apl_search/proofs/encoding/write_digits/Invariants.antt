use Rattle.std.proofs.Common.{◌≡◌, pos, length, get_or, drop}
use Rattle.apl_search.specs.Encoded.{left_by, IsNear}
use Rattle.apl_search.specs.inside.Rows.{HasDigits, KeepsBefore}
use Rattle.apl_search.proofs.encoding.write_digits.Given as goal

-- the digits in the rows from here on, and what their bases leave
abbrev pub invariant-loop-row : goal.invariant-loop-row
invariant-loop-row l = record {
  rest : l.rest ≡ left_by (drop l.row l.bases) (get_or l.numbers l.place (pos 0));
  near : IsNear l.rest;
  size : length l.rows ≡ length l.initial.rows;
  digits : HasDigits l.bases l.numbers l.place l.row l.rows;
  kept : KeepsBefore (length l.numbers) l.place l.initial.rows l.rows;
}
