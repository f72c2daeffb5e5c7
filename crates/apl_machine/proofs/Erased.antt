-- What erasing a global object makes of a machine.
use Rattle.std.proofs.Common.{◌≡◌, suc, true, false, List, [], ◌∷◌, drop, length, Option, Some, None, refl, sym, ap, ◌∙◌, subst, arith}
use Rattle.std.specs.Prelude.{is_none, Bool, Result, IfOk}
use Rattle.std.specs.Global.{Vec}
use Rattle.std.specs.declared.alloc.AllocError.{AllocError}
use Rattle.std.specs.Option.{option_map}
use Rattle.apl_names.specs.Maps.{Map, Text, first_map, kinds_in, last_map, without_entry, without_global}
use Rattle.apl_machine_state.specs.Environment as model
use Rattle.apl_machine_state.specs.Objects as objects
use Rattle.apl_machine_state.specs.declared.level.Level.{Level}
use Rattle.apl_frames.specs.Flat.{Flat, flat_rest}
use Rattle.apl_contexts.specs.declared.context.Context.{Context}
use Rattle.apl_contexts.specs.declared.context.Context.TheVariants.{Statement, Call, Execute}
use Rattle.apl_contexts.specs.Contexts.{calls, dressed, levels_in, under}
use Rattle.apl_machine.specs.Spaces.{Space, IsSound, state_of}
use Rattle.apl_vectors.specs.Vectors.{Vectors, without_vector}
use Rattle.apl_machine.proofs.Readers.{last_under, then_ok}
use Rattle.apl_machine_state.specs.State.{State}
use Rattle.apl_contexts.specs.Callers.{Caller}
use Rattle.apl_machine.proofs.Changed.{parts, same_parts, without_vectors}
use Rattle.apl_machine.specs.Worlds.{Settings, settings, state_at}

length_erased : (n : Text) (ms : List Map) → length (without_global n ms) ≡ length ms
length_erased n [] = refl
length_erased n (m ∷ []) = refl
length_erased n (m ∷ k ∷ ms) = ap suc (length_erased n (k ∷ ms))

dressed_erased : (n : Text) (ms : List Map) (cs : List Context) → length ms ≡ suc (calls cs) → dressed (without_global n ms) cs ≡ dressed ms cs
dressed_erased n ms [] e = refl
dressed_erased n ms (Statement s ∷ cs) e = ap (λ (ds : List model.Context). model.Statement s.text (flat_rest s.line) ∷ ds) (dressed_erased n ms cs e)
dressed_erased n [] (Call c ∷ cs) e = cc
dressed_erased n (m ∷ []) (Call c ∷ cs) e = cc
dressed_erased n (m ∷ k ∷ ms) (Call c ∷ cs) e = ap (λ (ds : List model.Context). model.Call c.definition c.at m (option_map flat_rest c.rest) ∷ ds) (dressed_erased n (k ∷ ms) cs (omega arith))
dressed_erased n ms (Execute s ∷ cs) e = ap (λ (ds : List model.Context). model.Execute s.text (flat_rest s.line) ∷ ds) (dressed_erased n ms cs e)

under_erased : (n : Text) (ms : List Map) (cs : List Context) → length ms ≡ suc (calls cs) → under (without_global n ms) cs ≡ without_entry n (under ms cs)
under_erased n [] [] e = cc
under_erased n (m ∷ []) [] e = refl
under_erased n (m ∷ k ∷ ms) [] e = cc
under_erased n ms (Statement s ∷ cs) e = under_erased n ms cs e
under_erased n [] (Call c ∷ cs) e = cc
under_erased n (m ∷ []) (Call c ∷ cs) e = cc
under_erased n (m ∷ k ∷ ms) (Call c ∷ cs) e = under_erased n (k ∷ ms) cs (omega arith)
under_erased n ms (Execute s ∷ cs) e = under_erased n ms cs e

pub erase_sound : (s : Space) (ns : List Map) (stops traces : Vectors) (n : Text) → IsSound s → ns ≡ without_global n s.maps → IsSound (record s { maps = ns; kept = settings stops traces s.kept.origin })
erase_sound s ns stops traces n h e = subst (λ (x : List Map). IsSound (record s { maps = x; kept = settings stops traces s.kept.origin })) (sym e) (record {
  contexts = record { stacked = h.contexts.stacked; as_many = length_erased n s.maps ∙ h.contexts.as_many };
})

pub erase_is : (s : Space) (ns : List Map) (stops traces : Vectors) (n : Text) → IsSound s → ns ≡ without_global n s.maps → stops ≡ without_vector n s.kept.stops → traces ≡ without_vector n s.kept.traces → state_of (record s { maps = ns; kept = settings stops traces s.kept.origin }) ≡ objects.without_global n (state_of s)
erase_is s ns stops traces n h e a b =
    let kept = settings stops traces s.kept.origin in
    ap (λ (x : List Map). state_at x kept s.contexts s.output) e
    ∙ same_parts _ _ kept _ _ s.output s.output (under_erased n s.maps s.contexts h.contexts.as_many) (dressed_erased n s.maps s.contexts h.contexts.as_many) refl
    ∙ ap (λ (k : Settings). parts (without_entry n (under s.maps s.contexts)) k (dressed s.maps s.contexts) s.output) (without_vectors s.kept stops traces n n refl a b)

-- a call's level
level_of : (c : Caller) (ms : List Map) (cs : List Context) (r : Option Flat) → objects.levels (dressed (drop 1 ms) cs) ≡ levels_in cs → objects.levels (model.Call c.definition c.at (first_map ms) (option_map flat_rest r) ∷ dressed (drop 1 ms) cs) ≡ record { name = c.definition.header.name; line = c.at; suspended = is_none r } ∷ levels_in cs
level_of c ms cs None h = ap (λ (ls : List Level). record { name = c.definition.header.name; line = c.at; suspended = true } ∷ ls) h
level_of c ms cs (Some f) h = ap (λ (ls : List Level). record { name = c.definition.header.name; line = c.at; suspended = false } ∷ ls) h

-- the levels of the flat contexts are those of the definitions
levels_are : (ms : List Map) (cs : List Context) → objects.levels (dressed ms cs) ≡ levels_in cs
levels_are ms [] = refl
levels_are ms (Statement s ∷ cs) = levels_are ms cs
levels_are ms (Call c ∷ cs) = level_of c ms cs c.rest (levels_are (drop 1 ms) cs)
levels_are ms (Execute s ∷ cs) = levels_are ms cs

pub levels_read : (s : Space) (t : State) (r : Result (Vec Level) AllocError) → state_of s ≡ t → IfOk r (λ v. v.items ≡ levels_in s.contexts) → IfOk r (λ v. v.items ≡ objects.levels t.contexts)
levels_read s t r e h = then_ok r (λ v i. i ∙ sym (levels_are s.maps s.contexts) ∙ ap (λ (u : State). objects.levels u.contexts) e) h

pub globals_read : (s : Space) (t : State) (r : Result (Vec (Text × Bool)) AllocError) → IsSound s → state_of s ≡ t → IfOk r (λ v. v.items ≡ kinds_in (last_map s.maps)) → IfOk r (λ v. v.items ≡ objects.globals t)
globals_read s t r i e h = then_ok r (λ v k. k ∙ ap kinds_in (last_under s.maps s.contexts i.contexts.as_many) ∙ ap objects.globals e) h
