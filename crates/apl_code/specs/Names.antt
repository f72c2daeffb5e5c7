-- Names.
use Rattle.std.specs.Prelude.{◌≡◌, ◌≤◌, ◌==◌, ◌||◌, ℕ, Bool, true, List, length, slice_index}
use Rattle.std.specs.Char.{is_ascii_digit, is_ascii_alphabetic}
use Rattle.std.specs.List.{list_all}

-- a letter: A to Z, a to z, ∆, ⍙ or _
abbrev pub is_letter : ℕ → Bool
is_letter c = is_ascii_alphabetic c || c == 0x2206 || c == 0x2359 || c == 95

-- a name goes on with it: a letter or a digit
abbrev pub is_in_name : ℕ → Bool
is_in_name c = is_letter c || is_ascii_digit c

-- a name: a letter, and then letters and digits, of at most 32 characters in all
pub record IsName (name : List ℕ) : Type 0 where
  pub letter : is_letter (slice_index name 0) ≡ true
  pub goes_on : list_all is_in_name name ≡ true
  pub short : length name ≤ 32
