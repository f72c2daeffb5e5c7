-- Bases and digits by places among the elements.
-- They are the values of `Decoded`, whose digits are taken index by index.
use Rattle.std.specs.Prelude.{ℕ, ◌+◌, ◌*◌, ℤ, pos, List, length, map, slice_index_or, Result}
use Rattle.std.specs.List.{range_with_len}
use Rattle.apl_faults.specs.declared.fault.Fault.{Fault}
use Rattle.apl_search.specs.Decoded.{served, valued}

-- the k-th base, and the k-th of the digits that stand so many places apart from p on
abbrev pub pair_at : List ℤ → List ℤ → ℕ → ℕ → ℕ → ℕ → ℤ × ℤ
pair_at bases digits len width p k = (slice_index_or bases (served (length bases) k) (pos 0), slice_index_or digits (served len k * width + p) (pos 0))

-- the value by the first so many bases of the digits that stand so many places apart from p on
abbrev pub value_by : List ℤ → List ℤ → ℕ → ℕ → ℕ → ℕ → Result ℤ Fault
value_by bases digits len width p count = valued (pos 0) (map (pair_at bases digits len width p) (range_with_len 0 count))
