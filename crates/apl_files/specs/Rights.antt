-- Who may read and write a file.
use Rattle.std.specs.Prelude.{ℕ, ◌*◌, Bool, bit_and, bit_or, if◌then◌else◌}

-- the rights of all who are neither the owner nor in the group
abbrev pub rights_of_others : ℕ → ℕ
rights_of_others mode = bit_and mode 7

-- the rights of a file that replaces one with these: the group's are those of all others where the group is another one
abbrev pub rights_after : ℕ → Bool → ℕ
rights_after mode has_group = if has_group then bit_and mode 511 else bit_or (bit_and mode 455) (8 * rights_of_others mode)
