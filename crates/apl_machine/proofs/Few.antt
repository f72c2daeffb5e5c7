-- What a machine keeps is few: at most 256 calls, and at most 999 lines that stop or are traced.
use Rattle.std.proofs.Common.{ℕ, zero, suc, ◌+◌, ◌≤◌, List, [], ◌∷◌, length, All, Option, Some, None, arith, subst}
use Rattle.std.specs.Map.{lookup}
use Rattle.std.specs.Prelude.{unwrap_or}
use Rattle.std.specs.Str.{bytes_eq}
use Rattle.apl_defn.specs.Definitions.{Text, Definition}
use Rattle.apl_defn.proofs.Limits.{few_lines}
use Rattle.apl_names.specs.declared.binding.Binding.{Binding}
use Rattle.apl_names.specs.declared.binding.Binding.TheVariants.{Unset, Label, Value, Function}
use Rattle.apl_names.specs.Maps.{Map, function_in, said}
use Rattle.apl_vectors.specs.Vectors.{Vectors, vector_of}
use Rattle.apl_order.specs.Kept.{AreAtMost, AreGlobals, AreLines, AreVectors, Ascend, IsKept, IsObject, IsVectorOf}
use Rattle.apl_contexts.specs.declared.context.Context.{Context}
use Rattle.apl_contexts.specs.declared.context.Context.TheVariants.{Statement, Call, Execute}
use Rattle.apl_contexts.specs.Contexts.{lines_in, standing}
use Rattle.apl_contexts.proofs.Blamed.{standing_dressed}
use Rattle.apl_machine_state.specs.declared.watch.Watch.{Watch}
use Rattle.apl_machine_state.specs.declared.watch.Watch.TheVariants.{Stop, Trace}
use Rattle.apl_machine.specs.Changes.{watched}
use Rattle.apl_machine.specs.Spaces.{IsHeld, Space, state_of}
use Rattle.apl_machine.specs.inside.Traces.{AreFew}

-- ---- calls

pub few_calls : (s : Space) → IsHeld s → standing s.contexts ≤ 256
few_calls s h = subst (λ n. n ≤ 256) (standing_dressed s.maps s.contexts) h.kept.keeps.few

-- each call stands at a line
pub as_many_lines : (cs : List Context) → length (lines_in cs) ≤ standing cs
as_many_lines [] = omega arith
as_many_lines (Statement s ∷ cs) = as_many_lines cs
as_many_lines (Call c ∷ cs) = let i = as_many_lines cs in omega arith
as_many_lines (Execute s ∷ cs) = let i = as_many_lines cs in omega arith

-- ---- vectors

few_between : (low most : ℕ) (ns : List ℕ) → Ascend low ns → AreAtMost most ns → low ≤ most → low + length ns ≤ most
few_between low most [] a b le = omega arith
few_between low most (n ∷ ns) a b le = let i = few_between n most ns a.1 b.1 b.0 in let x = a.0 in omega arith

small_all : (most limit : ℕ) (ns : List ℕ) → most ≤ limit → AreAtMost most ns → All (λ n. n ≤ limit) ns
small_all most limit [] le h k d lt = absurd (omega arith)
small_all most limit (n ∷ ns) le h zero d lt = let x = h.0 in omega arith
small_all most limit (n ∷ ns) le h (suc k) d lt = small_all most limit ns le h.1 k d (omega arith)

no_lines : AreFew []
no_lines = (omega arith, λ k d lt. absurd (omega arith))

few_of : (d : Definition) (ns : List ℕ) → length d.lines ≤ 999 → AreLines d ns → AreFew ns
few_of d ns le h = let n = few_between 0 (length d.lines) ns h.0 h.1 (omega arith) in (omega arith, small_all (length d.lines) 999 ns le h.1)

-- a vector is that of a function, so of its lines
few_listed : (name : Text) (object : Option Binding) (vector : Option (List ℕ)) → IsObject name object → IsVectorOf (function_in object) vector → AreFew (unwrap_or vector [])
few_listed name object None o v = no_lines
few_listed name (Some (Function d)) (Some []) o v = no_lines
few_listed name (Some (Function d)) (Some (n ∷ ns)) o v = few_of d (n ∷ ns) (few_lines d o.1) v
few_listed name (Some (Value a)) (Some ns) o v = absurd v
few_listed name (Some Unset) (Some ns) o v = absurd v
few_listed name (Some (Label l)) (Some ns) o v = absurd v
few_listed name None (Some ns) o v = absurd v

few_vector : (globals : Map) (vectors : Vectors) (name : Text) → AreGlobals globals → AreVectors globals vectors → AreFew (vector_of name vectors)
few_vector globals vectors name g v = few_listed name (said globals name) (lookup (bytes_eq name) vectors) (g.objects name) (v.lines name)

pub few_watched : (which : Watch) (s : Space) (name : Text) → IsKept (state_of s) → AreFew (vector_of name (watched which s.kept))
few_watched Stop s name h = few_vector _ s.kept.stops name h.keeps.globals h.keeps.stopped
few_watched Trace s name h = few_vector _ s.kept.traces name h.keeps.globals h.keeps.traced
