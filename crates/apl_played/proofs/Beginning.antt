-- Which state a call begins with.
use Rattle.std.proofs.Common.{◌≡◌, ◌≢◌, ◌∙◌, ℕ, List, [], ◌∷◌, true, false, ◌==◌, Option, None, length, sym, ap, arith}
use Rattle.std.specs.Prelude.{Result, Ok, Err, IsErrAnd, MatchResult}
use Rattle.apl_machine_state.specs.State.{State, clear}
use Rattle.apl_session.specs.Defining.{closed}
use Rattle.apl_workspace.specs.Saved.{IsLoaded}
use Rattle.apl_workspace.specs.declared.error.LoadError.{LoadError}
use Rattle.apl_workspace.specs.declared.error.LoadError.TheVariants as load
use Rattle.apl_played.specs.declared.error.PlayError.{PlayError}
use Rattle.apl_played.specs.declared.error.PlayError.TheVariants.{Memory}
use Rattle.apl_played.specs.Playing.{BeginsWith, error_of_load}

not-none : (b : ℕ) (bytes : List ℕ) → (length (b ∷ bytes) == 0) ≡ true → ⊥
not-none b bytes e = grind arith

not-some : (length {A = ℕ} [] == 0) ≡ false → ⊥
not-some e = cc

-- no bytes

pub begins-clear : (bytes : List ℕ) (s : State) → (length bytes == 0) ≡ true → s ≡ clear → BeginsWith bytes s
begins-clear [] s none e = e
begins-clear (b ∷ bytes) s none e = absurd (not-none b bytes none)

pub clear-begins : (bytes : List ℕ) (s : State) → (length bytes == 0) ≡ true → BeginsWith bytes s → s ≡ clear
clear-begins [] s none e = e
clear-begins (b ∷ bytes) s none h = absurd (not-none b bytes none)

-- some

pub begins-loaded : (bytes : List ℕ) (s : State) → (length bytes == 0) ≡ false → IsLoaded bytes s → BeginsWith bytes s
begins-loaded [] s some h = absurd (not-some some)
begins-loaded (b ∷ bytes) s some h = h

pub loaded-begins : (bytes : List ℕ) (s : State) → (length bytes == 0) ≡ false → BeginsWith bytes s → IsLoaded bytes s
loaded-begins [] s some h = absurd (not-some some)
loaded-begins (b ∷ bytes) s some h = h

pub some-bytes : (bytes : List ℕ) → (length bytes == 0) ≡ false → bytes ≢ []
some-bytes [] some e = not-some some
some-bytes (b ∷ bytes) some e = cc

-- loading is refused for want of memory
pub memory-refused : {T : Type 0} (P : T → Type 0) (e : LoadError) (r : Result T PlayError) → IsErrAnd r (λ x. x ≡ error_of_load e) → e ≡ load.Memory
    → MatchResult r P (λ x. x ≡ Memory)
memory-refused P e (Ok x) h is = absurd h
memory-refused P e (Err x) h is = h ∙ ap error_of_load is

-- a state in which no definition is open
pub closed-same : (s : State) → s.definition ≡ None → closed s ≡ s
closed-same s e = ap (λ (d : Option (List (List ℕ))). record s { definition = d }) (sym e)
