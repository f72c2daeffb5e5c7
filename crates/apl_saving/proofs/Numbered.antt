-- The lines of a definition, which are numbered from 1.
use Rattle.std.proofs.Common.{◌≡◌, ℕ, ◌+◌, ◌-◌, ◌<◌, cond, List, [], length, Some, None, ap, sym, ◌∙◌, arith, get_or}
use Rattle.std.specs.Prelude.{slice_get}
use Rattle.std.proofs.lemmas.Bool.{ne_eqb}
use Rattle.std.proofs.lemmas.Option.{get_or_from_slice_get, slice_get-get_or}
use Rattle.apl_defn.specs.Definitions.{Text, line_at}

less_one : (n : ℕ) → n + 1 - 1 ≡ n
less_one n = omega arith

pub line_next : (lines : List Text) (n : ℕ) → line_at lines (n + 1) ≡ slice_get lines n
line_next lines n = ap (λ b. cond b None (slice_get lines (n + 1 - 1))) (ne_eqb (n + 1) 0 (λ e. omega arith)) ∙ ap (slice_get lines) (less_one n)

pub is_there : (lines : List Text) (n : ℕ) → n < length lines → line_at lines (n + 1) ≡ None → ⊥
is_there lines n lt none =
    let there : slice_get lines n ≡ Some (get_or lines n []) = slice_get-get_or lines n [] lt in
    let not : slice_get lines n ≡ None = sym (line_next lines n) ∙ none in
    absurd (cc)

-- what is got stands there
pub got_there : (lines : List Text) (n : ℕ) (text : Text) → slice_get lines n ≡ Some text → text ≡ get_or lines n text
got_there lines n text h = sym (get_or_from_slice_get lines n text text h)
