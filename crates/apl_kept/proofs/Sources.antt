-- The lines of a function as they are written.
use Rattle.std.proofs.Common.{◌≡◌, ℕ, ◌+◌, ◌-◌, ◌<◌, [], ◌∷◌, ◌++◌, length, take, get_or, sym, ap, arith, ◌∙◌}
use Rattle.std.specs.Prelude.{slice_get, unwrap_or}
use Rattle.std.proofs.lemmas.List.{take_more}
use Rattle.std.proofs.lemmas.Option.{unwrap_or-slice_get}
use Rattle.apl_defn.specs.Definitions.{Text, Definition, line_of}

read : (d : Definition) (i : ℕ) → line_of d (i + 1) ≡ get_or d.lines i []
read d i =
    let back : (i + 1) - 1 ≡ i = omega arith in
    ap (λ (n : ℕ). unwrap_or (slice_get d.lines n) []) back ∙ unwrap_or-slice_get d.lines i []

pub next_line : (d : Definition) (i : ℕ) → i < length d.lines → take (i + 1) d.lines ≡ take i d.lines ++ line_of d (i + 1) ∷ []
next_line d i h = take_more d.lines i [] h ∙ ap (λ (line : Text). take i d.lines ++ line ∷ []) (sym (read d i))
