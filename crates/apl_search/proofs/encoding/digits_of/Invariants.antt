use Rattle.std.proofs.Common.{◌≡◌, ◌*◌, length}
use Rattle.apl_search.proofs.Rows.{HasBefore}
use Rattle.apl_search.proofs.encoding.digits_of.Given as goal

-- the digits of the numbers so far
abbrev pub invariant-loop-place : goal.invariant-loop-place
invariant-loop-place l = record {
  size : length l.rows.items ≡ length l.bases * length l.numbers;
  digits : HasBefore l.bases l.numbers l.place l.rows.items;
}
