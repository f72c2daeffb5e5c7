-- The ways in which a run does its lines.
use Rattle.std.specs.Prelude.{◌≡◌, ℕ, List, [], ◌++◌}

-- A way on states: what a line makes of a state, what the end of the input makes of it, the bytes that stand to be written in it, and the state with these written.
pub record Way (S : Type 0) : Type 0 where
  pub after_line : S → List ℕ → S
  pub at_end : S → S
  pub unwritten : S → List ℕ
  pub quiet : S → S

-- What stood to be written before stays first, and changes nothing else.
pub record KeepsPrefix {S : Type 0} (way : Way S) (does : S → S) : Type 0 where
  pub state : (s : S) → way.quiet (does (way.quiet s)) ≡ way.quiet (does s)
  pub prefix : (s : S) → way.unwritten (does s) ≡ way.unwritten s ++ way.unwritten (does (way.quiet s))

-- Lines and the end of the input leave first what stood to be written, and in a quiet state nothing does.
pub record IsInOrder {S : Type 0} (way : Way S) : Type 0 where
  pub lines : (line : List ℕ) → KeepsPrefix way (λ s. way.after_line s line)
  pub end : KeepsPrefix way way.at_end
  pub still : (s : S) → way.quiet (way.quiet s) ≡ way.quiet s
  pub nothing : (s : S) → way.unwritten (way.quiet s) ≡ []
