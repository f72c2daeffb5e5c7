-- Names.
use Rattle.std.specs.Prelude.{ℕ, nat_le, Bool, List, length}

-- a name has at most 32 characters
abbrev pub is_short_enough : List ℕ → Bool
is_short_enough text = nat_le (length text) 32
