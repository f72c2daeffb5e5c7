-- How a held session begins, and which bytes are typed to it.
use Rattle.std.specs.Prelude.{◌≡◌, ℕ, ◌≤◌, ◌==◌, Bool, List, [], ◌∷◌, length, IsFalse}
use Rattle.std.specs.List.{list_any}
use Rattle.apl_machine_state.specs.State.{State, clear}
use Rattle.apl_workspace.specs.Saved.{IsLoaded}

-- the state that a workspace's bytes stand for; no bytes stand for a clear one
abbrev pub BeginsWith : List ℕ → State → Type 0
BeginsWith [] s = s ≡ clear
BeginsWith (b ∷ bytes) s = IsLoaded (b ∷ bytes) s

abbrev pub has_line_feed : List ℕ → Bool
has_line_feed bytes = list_any (λ b. b == 10) bytes

-- the bytes of one line, of at most 2,000
abbrev pub IsOneLine : List ℕ → Type 0
IsOneLine line = (length line ≤ 2000) × IsFalse (has_line_feed line)
