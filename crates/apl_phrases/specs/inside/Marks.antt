-- Marks of lines.
-- The lines that are marked are those that `Watching` chooses.
use Rattle.std.specs.Prelude.{ℕ, suc, ℤ, pos, Bool, ◌||◌, List, [], ◌∷◌, map, Option, option_map, if◌then◌else◌}
use Rattle.std.specs.List.{list_any}
use Rattle.std.specs.Ordering.{int_eq}
use Rattle.apl_defn.specs.Definitions.{Text, Definition}
use Rattle.apl_machine_state.specs.Watching.{lines_among, numbered}

-- which lines are among these numbers, where the first line is the n-th
abbrev pub marks_of : List ℤ → ℕ → List Text → List Bool
marks_of numbers n lines = map (λ k. list_any (λ z. int_eq z (pos k)) numbers) (numbered n lines)

-- the marks with that of the line z too, where the first is that of the line n
abbrev pub marked : ℤ → ℕ → List Bool → List Bool
marked z n [] = []
marked z n (mark ∷ marks) = (mark || int_eq z (pos n)) ∷ marked z (suc n) marks

-- the numbers of the marked lines, where the first mark is that of the line n
abbrev pub marked_lines : ℕ → List Bool → List ℕ
marked_lines n [] = []
marked_lines n (mark ∷ marks) = if mark then n ∷ marked_lines (suc n) marks else marked_lines (suc n) marks

-- the lines of a function that are among these numbers, where there are some
abbrev pub chosen : Option (List ℤ) → Option (Definition → List ℕ)
chosen numbers = option_map lines_among numbers
