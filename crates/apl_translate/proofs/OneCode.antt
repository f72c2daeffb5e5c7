-- Items have one code.
use Rattle.std.proofs.Common.{◌≡◌, ℕ, Bool, List, [], ◌∷◌, Option, Some, None, sym, ap, ◌∙◌}
use Rattle.apl_code.specs.declared.instr.Instr.{Instr}
use Rattle.apl_code.specs.declared.row.Row.{Row}
use Rattle.apl_translate.specs.declared.form.Placed.{Placed}
use Rattle.apl_translate.specs.Forms.{next_forms}
use Rattle.apl_translate.specs.Phrase.{assigns, phrase}
use Rattle.apl_translate.specs.Translation.{Follows, Translates, kinds}

one_case : (i j : Instr) (is js : List Instr) (a : Bool) (ps : List Placed) (o : Option (ℕ × Row)) → Follows a ps i is (Translates is) o → Follows a ps j js (Translates js) o
    → ((b : Bool) (qs : List Placed) → Translates is b qs → Translates js b qs → is ≡ js) → i ∷ is ≡ j ∷ js
one_case i j is js a ps None t u more = ap (λ x. x ∷ is) (t.0 ∙ sym u.0) ∙ ap (λ xs. j ∷ xs) (t.1 ∙ sym u.1)
one_case i j is js a ps (Some p) t u more = ap (λ x. x ∷ is) (t.0 ∙ sym u.0) ∙ ap (λ xs. j ∷ xs) (more (assigns p.1) (next_forms (Some p) ps) t.1 u.1)

pub one_code : (is js : List Instr) (a : Bool) (ps : List Placed) → Translates is a ps → Translates js a ps → is ≡ js
one_code [] js a ps t u = absurd t
one_code (i ∷ is) [] a ps t u = absurd u
one_code (i ∷ is) (j ∷ js) a ps t u = one_case i j is js a ps (phrase None (kinds ps)) t u (one_code is js)
