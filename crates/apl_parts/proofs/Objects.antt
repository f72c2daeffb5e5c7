-- Global objects are put together from the last on.
use Rattle.std.proofs.Common.{◌≡◌, ℕ, List, [], ◌∷◌, ◌++◌, map, refl, sym, ap, ◌∙◌}
use Rattle.std.proofs.lemmas.List.{map_push}
use Rattle.apl_arrays.specs.Cells.{Arr}
use Rattle.apl_vectors.specs.Vectors.{Vectors, with_vector}
use Rattle.apl_names.specs.declared.binding.Binding.{Binding}
use Rattle.apl_names.specs.Maps.{Text, Map, assigned, first_map, map_of, with_entry, with_global}
use Rattle.apl_parts.specs.Pieces.{Watched}
use Rattle.apl_parts.specs.Restored.{function_entry, variable_entry, vectors_of}
use Rattle.apl_parts.specs.Making.{put_all, vectors_onto}

-- ---- maps

pub put_append : (es fs : List (Text × Binding)) (m : Map) → put_all (es ++ fs) m ≡ put_all es (put_all fs m)
put_append [] fs m = refl
put_append (e ∷ es) fs m = ap (with_entry e.0 e.1) (put_append es fs m)

pub put_is : (es : List (Text × Binding)) → put_all es [] ≡ map_of es
put_is [] = refl
put_is (e ∷ es) = ap (with_entry e.0 e.1) (put_is es)

-- one entry less is left, and the only map has it
pub one_put : {X : Type 0} (entry : X → Text × Binding) (xs rest : List X) (x : X) (ms ns : List Map) → xs ≡ rest ++ x ∷ [] → ns ≡ with_entry (entry x).0 (entry x).1 (first_map ms) ∷ []
    → (ns ≡ first_map ns ∷ []) × (put_all (map entry rest) (first_map ns) ≡ put_all (map entry xs) (first_map ms))
one_put entry xs rest x ms ns e h = (
  h ∙ sym (ap (λ (k : List Map). first_map k ∷ []) h),
  ap (λ (k : List Map). put_all (map entry rest) (first_map k)) h
      ∙ sym (put_append (map entry rest) (entry x ∷ []) (first_map ms))
      ∙ ap (λ (es : List (Text × Binding)). put_all es (first_map ms)) (sym (map_push entry rest x))
      ∙ ap (λ ys. put_all (map entry ys) (first_map ms)) (sym e),
)

pub assigned_single : (n : Text) (b : Binding) (ms : List Map) → ms ≡ first_map ms ∷ [] → assigned ms n b ≡ with_entry n b (first_map ms) ∷ []
assigned_single n b ms h = ap (λ (k : List Map). assigned k n b) h

pub global_single : (n : Text) (b : Binding) (ms : List Map) → ms ≡ first_map ms ∷ [] → with_global n b ms ≡ with_entry n b (first_map ms) ∷ []
global_single n b ms h = ap (with_global n b) h

-- functions and variables, over nothing
pub globals_put : (es fs : List (Text × Binding)) → put_all es (put_all fs []) ≡ map_of (es ++ fs)
globals_put es fs = sym (put_append es fs []) ∙ put_is (es ++ fs)

-- ---- vectors

onto_append : (which : Watched → List ℕ) (fs gs : List Watched) (v : Vectors) → vectors_onto which (fs ++ gs) v ≡ vectors_onto which fs (vectors_onto which gs v)
onto_append which [] gs v = refl
onto_append which (f ∷ fs) gs v = ap (with_vector f.definition.header.name (which f)) (onto_append which fs gs v)

pub one_onto : (which : Watched → List ℕ) (fs rest : List Watched) (f : Watched) (old new : Vectors) → fs ≡ rest ++ f ∷ [] → new ≡ with_vector f.definition.header.name (which f) old
    → vectors_onto which rest new ≡ vectors_onto which fs old
one_onto which fs rest f old new e h = ap (vectors_onto which rest) h ∙ sym (onto_append which rest (f ∷ []) old) ∙ ap (λ (gs : List Watched). vectors_onto which gs old) (sym e)

pub onto_is : (which : Watched → List ℕ) (fs : List Watched) → vectors_onto which fs [] ≡ vectors_of which fs
onto_is which [] = refl
onto_is which (f ∷ fs) = ap (with_vector f.definition.header.name (which f)) (onto_is which fs)

-- ---- the global map, when all is put into it

pub globals_are : (fs : List Watched) (vs : List (Text × Arr)) (ms ns ks : List Map) → ms ≡ [] ∷ [] → ns ≡ put_all (map variable_entry vs) (first_map ms) ∷ [] → ks ≡ put_all (map function_entry fs) (first_map ns) ∷ []
    → first_map ks ≡ map_of (map function_entry fs ++ map variable_entry vs)
globals_are fs vs ms ns ks d e h =
    ap first_map h
    ∙ ap (λ (k : List Map). put_all (map function_entry fs) (first_map k)) e
    ∙ ap (λ (k : List Map). put_all (map function_entry fs) (put_all (map variable_entry vs) (first_map k))) d
    ∙ globals_put (map function_entry fs) (map variable_entry vs)

pub vectors_are : (which : Watched → List ℕ) (fs : List Watched) (old new : Vectors) → old ≡ [] → new ≡ vectors_onto which fs old → new ≡ vectors_of which fs
vectors_are which fs old new e h = h ∙ ap (vectors_onto which fs) e ∙ onto_is which fs
