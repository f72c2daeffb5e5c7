-- The number that a short text of ASCII has alone.
use Rattle.std.specs.Prelude.{ℕ, List, Bool, true, [], ◌∷◌, ◌+◌, ◌*◌, ◌&&◌, length, nat_le, if◌then◌else◌}
use Rattle.std.specs.Int.{is_in_range}

-- the characters as digits to the base 256, the first of them the lowest
abbrev pub packed : List ℕ → ℕ
packed [] = 0
packed (c ∷ cs) = c + 256 * packed cs

-- whether each character is such a digit. None is 0: else a text, and the text with such characters behind it, had one number
abbrev pub are_digits : List ℕ → Bool
are_digits [] = true
are_digits (c ∷ cs) = is_in_range 1 126 c && are_digits cs

-- the number of a text of at most 8 characters of ASCII, and 0 for every other text: so where two texts have one number, and it isn't 0,
-- they are the same text
unfoldable pub short_of : List ℕ → ℕ
short_of text = if nat_le (length text) 8 && are_digits text then packed text else 0
