-- The lines of an input, and what a run over them writes.
use Rattle.std.specs.Prelude.{ℕ, List, [], ◌∷◌, ◌++◌, ◌-◌, ◌==◌, if◌then◌else◌, length, map, take, slice_index}
use Rattle.apl_runs.specs.Ways.{Way}

-- the pieces of the input that a line feed ends, behind a prefix of the first
abbrev pub ended_behind : List ℕ → List ℕ → List (List ℕ)
ended_behind prefix [] = []
ended_behind prefix (b ∷ input) = if b == 10 then prefix ∷ ended_behind [] input else ended_behind (prefix ++ b ∷ []) input

-- what follows the last line feed
abbrev pub unfinished_behind : List ℕ → List ℕ → List ℕ
unfinished_behind prefix [] = prefix
unfinished_behind prefix (b ∷ input) = if b == 10 then unfinished_behind [] input else unfinished_behind (prefix ++ b ∷ []) input

-- the bytes before each line feed, from the one before on
abbrev pub ended : List ℕ → List (List ℕ)
ended input = ended_behind [] input

-- the bytes behind the last line feed
abbrev pub unfinished : List ℕ → List ℕ
unfinished input = unfinished_behind [] input

-- without a carriage return at the end
abbrev pub without_return : List ℕ → List ℕ
without_return line = if slice_index line (length line - 1) == 13 then take (length line - 1) line else line

-- the lines that a line feed ends, or a carriage return and a line feed
abbrev pub complete_lines : List ℕ → List (List ℕ)
complete_lines input = map without_return (ended input)

-- bytes behind the last line feed are a line if there are any
abbrev pub last_line : List ℕ → List (List ℕ)
last_line [] = []
last_line (b ∷ rest) = (b ∷ rest) ∷ []

-- the lines of an input
abbrev pub lines_of : List ℕ → List (List ℕ)
lines_of input = complete_lines input ++ last_line (unfinished input)

-- the state after lines that are done in a way, the first of them first
abbrev pub after_lines : {S : Type 0} → Way S → S → List (List ℕ) → S
after_lines way s [] = s
after_lines way s (line ∷ lines) = after_lines way (way.after_line s line) lines

-- what lines write
abbrev pub transcript_of : {S : Type 0} → Way S → S → List (List ℕ) → List ℕ
transcript_of way s lines = way.unwritten (after_lines way s lines)

-- the state after all lines of an input, and its end
abbrev pub after_input : {S : Type 0} → Way S → S → List ℕ → S
after_input way s input = way.at_end (after_lines way s (lines_of input))

-- what an input writes
abbrev pub transcript : {S : Type 0} → Way S → S → List ℕ → List ℕ
transcript way s input = way.unwritten (after_input way s input)
