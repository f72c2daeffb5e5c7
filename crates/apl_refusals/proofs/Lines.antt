-- The texts of lines.
use Rattle.std.proofs.Common.{◌≡◌, ◌∙◌, sym, ap, ℕ, ◌+◌, ◌-◌, ◌<◌, Bool, true, false, List, [], length, Option, Some, None, arith, ext_get_or}
use Rattle.std.proofs.lemmas.Option.{unwrap_or-slice_get}
use Rattle.std.specs.Prelude.{◌==◌, if◌then◌else◌, slice_get, slice_index_or, unwrap_or}
use Rattle.apl_defn.specs.Definitions.{Text, line_at}

text_by : (b : Bool) (o : Option Text) (text : Text) → (if b then None else o) ≡ Some text → unwrap_or o [] ≡ text
text_by true o text h = cc
text_by false o text h = ap (λ (p : Option Text). unwrap_or p []) h

-- the line that follows the first k has their number plus one
pub text_at : (lines : List Text) (k : ℕ) (text : Text) → line_at lines (k + 1) ≡ Some text → slice_index_or lines k [] ≡ text
text_at lines k text h =
    let next : k ≡ k + 1 - 1 = omega arith in
    sym (unwrap_or-slice_get lines k []) ∙ (ap (λ (i : ℕ). unwrap_or (slice_get lines i) []) next ∙ text_by (k + 1 == 0) (slice_get lines (k + 1 - 1)) text h)

-- as many lines, each as its counterpart
pub same_lines : (some others : List Text) → length some ≡ length others → ((k : ℕ) → k < length some → slice_index_or some k [] ≡ slice_index_or others k []) → some ≡ others
same_lines = ext_get_or []
