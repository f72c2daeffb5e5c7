-- The numbers up to a count.
use Rattle.std.specs.Prelude.{ℕ, ℤ, pos, negsuc, ◌==◌, [], ◌∷◌, map, slice_index_or, Result, Ok, Err}
use Rattle.std.specs.List.{range_with_len}
use Rattle.apl_faults.specs.declared.fault.Fault.{Fault}
use Rattle.apl_faults.specs.declared.fault.Fault.TheVariants.{Domain, Length}
use Rattle.apl_arrays.specs.Cells.{Arr, Numbers}
use Rattle.apl_arrays.specs.Checks.{demand, limited, vector_rank, numbers_of, count_of}
use Rattle.apl_arrays.specs.Results.{and_then, ok_map}

-- a number that is not negative
abbrev pub natural : ℤ → Result ℕ Fault
natural (pos n) = Ok n
natural (negsuc n) = Err Domain

-- the count that an array of one number names: RANK, LENGTH, then DOMAIN
abbrev pub count_named : Arr → Result ℕ Fault
count_named b =
    and_then (vector_rank b) (λ u.
    and_then (demand (count_of b == 1) Length) (λ u.
    and_then (numbers_of b.items) (λ zs. natural (slice_index_or zs 0 (pos 0)))))

-- the vector of so many numbers from the index origin on, within the limits
abbrev pub iota : Arr → ℕ → Result Arr Fault
iota b origin =
    and_then (count_named b) (λ n.
    ok_map (λ shape. record { shape = shape; items = Numbers (map pos (range_with_len origin n)) }) (limited (n ∷ [])))
