-- Blanks round a text.
use Rattle.std.specs.Prelude.{ℕ, ◌==◌, List, [], ◌∷◌, reverse, if◌then◌else◌}

-- without the leading blanks
abbrev pub without_leading : List ℕ → List ℕ
without_leading [] = []
without_leading (c ∷ text) = if c == 32 then without_leading text else c ∷ text

-- without the blanks at both ends
abbrev pub trimmed : List ℕ → List ℕ
trimmed text = reverse (without_leading (reverse (without_leading text)))
