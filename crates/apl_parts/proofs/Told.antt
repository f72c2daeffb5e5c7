-- Contexts are told one after another, the newest first.
use Rattle.std.proofs.Common.{◌≡◌, ℕ, zero, suc, ◌+◌, ◌≤◌, List, [], ◌∷◌, ◌++◌, drop, length, map, Some, None, refl, sym, ap, ◌∙◌, add-one, append_assoc, arith}
use Rattle.std.specs.Prelude.{slice_get}
use Rattle.std.proofs.lemmas.List.{append-nil, drop-drop}
use Rattle.apl_names.specs.Maps.{Map}
use Rattle.apl_contexts.specs.declared.context.Context.{Context}
use Rattle.apl_contexts.specs.declared.context.Context.TheVariants.{Statement, Call, Execute}
use Rattle.apl_contexts.specs.Contexts.{dressed}
use Rattle.apl_parts.specs.declared.parts.ContextPart.{ContextPart}
use Rattle.apl_parts.specs.Making.{dress, scope_beneath}
use Rattle.apl_parts.specs.Taken.{part_of}

got_drop : (k : ℕ) (cs : List Context) (c : Context) → slice_get cs k ≡ Some c → drop k cs ≡ c ∷ drop (suc k) cs
got_drop zero [] c h = cc
got_drop zero (d ∷ cs) c h = let e : d ≡ c = cc in ap (λ x. x ∷ cs) e
got_drop (suc k) [] c h = cc
got_drop (suc k) (d ∷ cs) c h = got_drop k cs c h

got_none : (k : ℕ) (cs : List Context) → slice_get cs k ≡ None → drop k cs ≡ []
got_none zero [] h = refl
got_none zero (d ∷ cs) h = cc
got_none (suc k) [] h = refl
got_none (suc k) (d ∷ cs) h = got_none k cs h

pub got_length : (k : ℕ) (cs : List Context) (c : Context) → slice_get cs k ≡ Some c → suc k ≤ length cs
got_length zero [] c h = cc
got_length zero (d ∷ cs) c h = omega arith
got_length (suc k) [] c h = cc
got_length (suc k) (d ∷ cs) c h = let e = got_length k cs c h in omega arith

dressed_first : (ms : List Map) (scope : ℕ) (c : Context) (cs : List Context) → dressed (drop scope ms) (c ∷ cs) ≡ dress (drop scope ms) c ∷ dressed (drop (scope_beneath scope c) ms) cs
dressed_first ms scope (Statement s) cs = refl
dressed_first ms scope (Call c) cs = ap (λ (ks : List Map). dress (drop scope ms) (Call c) ∷ dressed ks cs) (drop-drop 1 scope ms)
dressed_first ms scope (Execute s) cs = refl

-- those that are told and those that are left
abbrev pub told_with : List Map → List Context → List ContextPart → ℕ → ℕ → List ContextPart
told_with ms cs told scope n = told ++ map part_of (dressed (drop scope ms) (drop n cs))

pub told_more : (ms : List Map) (cs : List Context) (told new : List ContextPart) (scope below n m : ℕ) (c : Context) (p : ContextPart) (all : List ContextPart) → slice_get cs n ≡ Some c → p ≡ part_of (dress (drop scope ms) c) → below ≡ scope_beneath scope c → new ≡ told ++ p ∷ [] → m ≡ n + 1
    → told_with ms cs told scope n ≡ all → told_with ms cs new below m ≡ all
told_more ms cs told new scope below n m c p all got is e pushed next h =
    ap (λ ps. told_with ms cs ps below m) pushed
    ∙ ap (told_with ms cs (told ++ p ∷ []) below) (next ∙ add-one n)
    ∙ append_assoc told (p ∷ []) (map part_of (dressed (drop below ms) (drop (suc n) cs)))
    ∙ ap (λ q. told ++ q ∷ map part_of (dressed (drop below ms) (drop (suc n) cs))) is
    ∙ ap (λ b. told ++ part_of (dress (drop scope ms) c) ∷ map part_of (dressed (drop b ms) (drop (suc n) cs))) e
    ∙ ap (λ ds. told ++ map part_of ds) (sym (dressed_first ms scope c (drop (suc n) cs)))
    ∙ ap (λ ds. told ++ map part_of (dressed (drop scope ms) ds)) (sym (got_drop n cs c got))
    ∙ h

pub told_all : (ms : List Map) (cs : List Context) (told all : List ContextPart) (scope n : ℕ) → slice_get cs n ≡ None → told_with ms cs told scope n ≡ all → told ≡ all
told_all ms cs told all scope n got h = sym (append-nil told) ∙ sym (ap (λ ds. told ++ map part_of (dressed (drop scope ms) ds)) (got_none n cs got)) ∙ h

pub scope_most : (scope : ℕ) (c : Context) → scope_beneath scope c ≤ scope + 1
scope_most scope (Statement s) = omega arith
scope_most scope (Call c) = omega arith
scope_most scope (Execute s) = omega arith
