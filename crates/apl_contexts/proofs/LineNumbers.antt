-- The line numbers of standing calls, and how a state indicator shows them.
use Rattle.std.proofs.Common.{◌≡◌, List, [], ◌∷◌, ◌++◌, reverse, refl, ap, ◌∙◌}
use Rattle.std.proofs.lemmas.List.{reverse-append}
use Rattle.apl_contexts.specs.declared.context.Context.{Context}
use Rattle.apl_contexts.specs.declared.context.Context.TheVariants.{Statement, Call, Execute}
use Rattle.apl_contexts.specs.Contexts.{levels_in, lines_in}

pub lines_first : (c : Context) (cs : List Context) → lines_in (c ∷ cs) ≡ lines_in (c ∷ []) ++ lines_in cs
lines_first (Statement s) cs = refl
lines_first (Call c) cs = refl
lines_first (Execute s) cs = refl

pub lines_last : (prefix : List Context) (c : Context) → lines_in (reverse (prefix ++ c ∷ [])) ≡ lines_in (c ∷ []) ++ lines_in (reverse prefix)
lines_last prefix c = ap lines_in (reverse-append prefix (c ∷ [])) ∙ lines_first c (reverse prefix)

pub levels_first : (c : Context) (cs : List Context) → levels_in (c ∷ cs) ≡ levels_in (c ∷ []) ++ levels_in cs
levels_first (Statement s) cs = refl
levels_first (Call c) cs = refl
levels_first (Execute s) cs = refl

pub levels_last : (prefix : List Context) (c : Context) → levels_in (reverse (prefix ++ c ∷ [])) ≡ levels_in (c ∷ []) ++ levels_in (reverse prefix)
levels_last prefix c = ap levels_in (reverse-append prefix (c ∷ [])) ∙ levels_first c (reverse prefix)
