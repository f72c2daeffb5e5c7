-- The last line of an input, and its end.
use Rattle.std.proofs.Common.{◌≡◌, ℕ, ◌==◌, List, [], ◌∷◌, ◌++◌, sym, refl, length, subst, Bool, false}
use Rattle.std.specs.Prelude.{IsTrue, Result, Err}
use Rattle.apl_runs.specs.Transcript.{last_line}
use Rattle.apl_runs.specs.Ways.{Way, IsInOrder}
use Rattle.apl_runs.specs.Runs.{Writes}
use Rattle.apl_runs.proofs.Writing.{writes-first, writes-second}
use Rattle.apl_runs.specs.declared.runs.RunError.{RunError}

pub last_line-one : (line : List ℕ) → false ≡ (length line == 0) → last_line line ≡ line ∷ []
last_line-one [] e = cc
last_line-one (b ∷ rest) e = refl

module _ {S : Type 0} (way : Way S) (order : IsInOrder way) where
  -- a line is done and written, and the end then
  pub writes-end : (result : Result (Unit {0}) RunError) (s t : S) (line : List ℕ) (tells : Bool) (old mid new : List ℕ) → t ≡ way.quiet (way.after_line s line) →
      (IsTrue tells → mid ≡ old ++ way.unwritten (way.after_line s line)) → Writes result (way.unwritten (way.at_end t)) tells mid new →
      Writes result (way.unwritten (way.at_end (way.after_line s line))) tells old new
  writes-end result s t line tells old mid new e first h =
      let made : S = way.after_line s line in
      subst (λ (text : List ℕ). Writes result text tells old new) (sym (order.end.prefix made))
      (writes-second result (way.unwritten made) (way.unwritten (way.at_end (way.quiet made))) tells old mid new first
      (subst (λ (u : S). Writes result (way.unwritten (way.at_end u)) tells mid new) e h))

  -- doing a line has failed
  pub fails-before_end : (e : RunError) (s : S) (line : List ℕ) (tells : Bool) (old new : List ℕ) → Writes {A = Unit {0}} (Err e) (way.unwritten (way.after_line s line)) tells old new →
      Writes {A = Unit {0}} (Err e) (way.unwritten (way.at_end (way.after_line s line))) tells old new
  fails-before_end e s line tells old new h =
      let made : S = way.after_line s line in
      subst (λ (text : List ℕ). Writes {A = Unit {0}} (Err e) text tells old new) (sym (order.end.prefix made))
      (writes-first e (way.unwritten made) (way.unwritten (way.at_end (way.quiet made))) tells old new h)
