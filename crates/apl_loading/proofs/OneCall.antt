-- Calls of a file.
use Rattle.std.proofs.Common.{◌≡◌, ℕ, zero, suc, ◌-◌, ◌≤◌, true, false, cond, ◌==◌, List, [], ◌∷◌, length, Option, Some, None, Ok, sym, ap, ◌∙◌, subst, arith}
use Rattle.std.specs.Prelude.{slice_get}
use Rattle.std.proofs.lemmas.Option.{slice_get_within}
use Rattle.std.proofs.lemmas.Bool.Decides.{nat_tests}
use Rattle.apl_arrays.specs.Cells.{Arr}
use Rattle.apl_defn.specs.Definitions.{Text, Definition, is_line, line_at, line_of}
use Rattle.apl_machine_state.specs.declared.operand.Operand.{Operand}
use Rattle.apl_parts.specs.Pieces.{Standing, Waiting}
use Rattle.apl_workspace_file.specs.declared.fields.CallField.{CallField}
use Rattle.apl_workspace_file.specs.declared.fields.RestField.{RestField}
use Rattle.apl_tokens.specs.declared.token.Token.{Token}
use Rattle.apl_tokens.specs.Tokens.{tokens_of}
use Rattle.apl_loading.specs.inside.Made.{IsCallBy, IsRestBy, IsRestOfLine, IsWaitingBy}
use Rattle.apl_loading.proofs.OneLine.{same_tokens}

line_behind : (lines : List Text) (k : ℕ) → line_at lines (suc k) ≡ slice_get lines k
line_behind lines k =
    let z : (suc k == 0) ≡ false = grind (arith, nat_tests) in
    let o : suc k - 1 ≡ k = omega arith in
    ap (λ b. cond b None (slice_get lines (suc k - 1))) z ∙ ap (slice_get lines) o

some_within : (lines : List Text) (n : ℕ) (t : Text) → line_at lines n ≡ Some t → (1 ≤ n) × (n ≤ length lines)
some_within lines zero t h = cc
some_within lines (suc k) t h = let w = slice_get_within lines k t (sym (line_behind lines k) ∙ h) in (omega arith, omega (arith, w))

pub at_line : (d : Definition) (n : ℕ) (t : Text) → line_at d.lines n ≡ Some t → is_line d n ≡ true
at_line d n t h = let w = some_within d.lines n t h in grind (arith, nat_tests, w.0, w.1)

none_beyond : (lines : List Text) (k : ℕ) → slice_get lines k ≡ None → length lines ≤ k
none_beyond [] k h = omega arith
none_beyond (t ∷ ts) zero h = cc
none_beyond (t ∷ ts) (suc k) h = let i = none_beyond ts k h in omega (arith, i)

pub no_line : (d : Definition) (f : CallField) (values : List (Option Arr)) (os : List Operand) → line_at d.lines f.at ≡ None → (c : Standing) → ¬ IsCallBy d f values os c
no_line d f values os h c g = beyond f.at h g.at_line
  where
    beyond : (n : ℕ) → line_at d.lines n ≡ None → is_line d n ≡ true → ⊥
    beyond zero h b = grind (arith, nat_tests, b)
    beyond (suc k) h b = let le = none_beyond d.lines k (sym (line_behind d.lines k) ∙ h) in grind (arith, nat_tests, le, b)

-- ---- the line of a call

pub rest_of_line : (text : Text) (tokens : List Token) (o : Option RestField) (os : List Operand) (rest : Option Waiting) → tokens_of text ≡ Ok tokens → IsRestBy tokens o os rest → IsRestOfLine text o os rest
rest_of_line text tokens None os None r h = tt
rest_of_line text tokens None os (Some w) r h = absurd h
rest_of_line text tokens (Some f) os None r h = absurd h
rest_of_line text tokens (Some f) os (Some w) r h = (tokens, r, h)

pub rest_by_tokens : (text : Text) (tokens : List Token) (o : Option RestField) (os : List Operand) (rest : Option Waiting) → tokens_of text ≡ Ok tokens → IsRestOfLine text o os rest → IsRestBy tokens o os rest
rest_by_tokens text tokens None os None r h = tt
rest_by_tokens text tokens None os (Some w) r h = absurd h
rest_by_tokens text tokens (Some f) os None r h = absurd h
rest_by_tokens text tokens (Some f) os (Some w) r h = subst (λ ts. IsWaitingBy ts f os w) (same_tokens text h.0 tokens h.1 r) h.2

pub no_call_rest : (d : Definition) (f : CallField) (values : List (Option Arr)) (os : List Operand) (tokens : List Token) → tokens_of (line_of d f.at) ≡ Ok tokens → ((rest : Option Waiting) → ¬ IsRestBy tokens f.rest os rest) → (c : Standing) → ¬ IsCallBy d f values os c
no_call_rest d f values os tokens r none c g = none c.rest (rest_by_tokens (line_of d f.at) tokens f.rest os c.rest r g.rest)
