-- Events in order leave each session where its own lead it.
use Rattle.std.proofs.Common.{◌≡◌, ℕ, zero, suc, ◌+◌, ◌<◌, ◌==◌, Bool, true, false, List, [], ◌∷◌, ◌++◌, length, map, take, refl, sym, ap, subst, ◌∙◌, Some, slice_get, slice_index_or, slice_set, arith, rules}
use Rattle.std.specs.Prelude.{All, option_map}
use Rattle.std.proofs.lemmas.Bool.{eqb-true, eqb-false}
use Rattle.std.proofs.lemmas.List.{take_more, take-map, map-append}
use Rattle.std.proofs.lemmas.Option.{slice_get-map, slice_get-get_or}
use Rattle.apl_machine_state.specs.State.{State, steps}
use Rattle.apl_session.specs.declared.session.Event.{Event as Typed}
use Rattle.apl_session.specs.Views.{event}
use Rattle.apl_session.specs.Events.{IsPart, after, after_event}
use Rattle.apl_desk.specs.Desk.{Addressed, own, session, AreAlone, LeftAt}
use Rattle.apl_desk.specs.Views.{addressed, addressed_list}

-- the sessions after an event of one of them
abbrev pub with_event : List State → Addressed → List State
with_event before a = slice_set before a.number (after_event (session before a.number) a.event)

-- the sessions after events, the first of them first
abbrev pub after_all : List State → List Addressed → List State
after_all before [] = before
after_all before (a ∷ all) = after_all (with_event before a) all

pub as_many_set : (xs : List State) (k : ℕ) (y : State) → length (slice_set xs k y) ≡ length xs
as_many_set [] k y = refl
as_many_set (x ∷ xs) zero y = refl
as_many_set (x ∷ xs) (suc k) y = ap suc (as_many_set xs k y)

pub set_same : (xs : List State) (k : ℕ) (y : State) → k < length xs → session (slice_set xs k y) k ≡ y
set_same [] k y w = absurd (omega arith)
set_same (x ∷ xs) zero y w = refl
set_same (x ∷ xs) (suc k) y w = set_same xs k y (omega arith)

pub set_other : (xs : List State) (j k : ℕ) (y : State) → (j ≡ k → ⊥) → session (slice_set xs j y) k ≡ session xs k
set_other [] j k y apart = refl
set_other (x ∷ xs) zero zero y apart = absurd (apart refl)
set_other (x ∷ xs) zero (suc k) y apart = refl
set_other (x ∷ xs) (suc j) zero y apart = refl
set_other (x ∷ xs) (suc j) (suc k) y apart = set_other xs j k y (λ e. apart (ap suc e))

pub as_many_after : (all : List Addressed) (before : List State) → length (after_all before all) ≡ length before
as_many_after [] before = refl
as_many_after (a ∷ all) before = as_many_after all (with_event before a) ∙ as_many_set before a.number (after_event (session before a.number) a.event)

-- the rest of the events, behind the first
behind : (a : Addressed) (all : List Addressed) (before : List State) (k : ℕ) (b : Bool) → (a.number == k) ≡ b → k < length before
    → after (session (with_event before a) k) (own k all) ≡ after (session before k) (own k (a ∷ all))
behind a all before k false e w = rw (e) (ap (λ s. after s (own k all)) (set_other before a.number k (after_event (session before a.number) a.event) (eqb-false a.number k e)))
behind a all before k true e w = rw (e) (
    let same = eqb-true a.number k e in
    let here = set_same before k (after_event (session before a.number) a.event) w in
    ap (λ s. after s (own k all)) (ap (λ n. session (slice_set before n (after_event (session before a.number) a.event)) k) same ∙ here ∙ ap (λ n. after_event (session before n) a.event) same))

pub each_alone : (all : List Addressed) (before : List State) (k : ℕ) → k < length before → session (after_all before all) k ≡ after (session before k) (own k all)
each_alone [] before k w = refl
each_alone (a ∷ all) before k w =
    each_alone all (with_event before a) k (rw (as_many_set before a.number (after_event (session before a.number) a.event)) w)
    ∙ behind a all before k (a.number == k) refl w

pub are_alone : (before : List State) (all : List Addressed) → AreAlone before all (after_all before all)
are_alone before all = record { as_many = as_many_after all before; alone = each_alone all before }

pub one_more : (all : List Addressed) (before : List State) (a : Addressed) → after_all before (all ++ a ∷ []) ≡ with_event (after_all before all) a
one_more [] before a = refl
one_more (b ∷ all) before a = one_more all (with_event before b) a

-- the sessions after one pair more, p
pub goes_on : (before : List State) (pairs : List (ℕ × Typed)) (i : ℕ) (now next : List State) (p : ℕ × Typed) → i < length pairs → p ≡ slice_index_or pairs i p
    → now ≡ after_all before (addressed_list (take i pairs)) → next ≡ slice_set now p.0 (after_event (session now p.0) (event p.1))
    → (next ≡ after_all before (addressed_list (take (i + 1) pairs))) × (length next ≡ length now)
goes_on before pairs i now next p w here eq moved =
    let more = ap (λ ps. addressed_list ps) (take_more pairs i p w) ∙ map-append addressed (take i pairs) (slice_index_or pairs i p ∷ [])
    ∙ ap (λ q. addressed_list (take i pairs) ++ addressed q ∷ []) (sym here) in (
      moved ∙ ap (λ xs. with_event xs (addressed p)) eq ∙ sym (one_more (addressed_list (take i pairs)) before (addressed p)) ∙ ap (after_all before) (sym more),
      ap (λ xs. length xs) moved ∙ as_many_set now p.0 (after_event (session now p.0) (event p.1)),
    )

-- where the event of the pair p is left before its end
pub left_at : (before : List State) (pairs : List (ℕ × Typed)) (i done : ℕ) (now left : List State) (p : ℕ × Typed) → i < length pairs → p ≡ slice_index_or pairs i p
    → All (λ (q : ℕ × Typed). q.0 < length before) pairs → now ≡ after_all before (addressed_list (take i pairs)) → IsPart done (Some (event p.1))
    → left ≡ slice_set now p.0 (steps done (session now p.0)) → LeftAt before (addressed_list pairs) i done left
left_at before pairs i done now left p w here within eq part err =
    let all = addressed_list (take i pairs) in
    let many : length now ≡ length before = ap (λ xs. length xs) eq ∙ as_many_after all before in
    let beneath : p.0 < length before = subst (λ q. q.0 < length before) (sym here) (within i p w) in
    let inside : p.0 < length now = rw (many) beneath in
    let starts : all ≡ take i (addressed_list pairs) = sym (take-map addressed i pairs) in
    let stands : (k : ℕ) → k < length before → session now k ≡ after (session before k) (own k (take i (addressed_list pairs))) =
    λ k inside_k. ap (λ xs. session xs k) eq ∙ each_alone all before k inside_k ∙ ap (λ xs. after (session before k) (own k xs)) starts in
    record {
      as_many = ap (λ xs. length xs) err ∙ as_many_set now p.0 (steps done (session now p.0)) ∙ many;
      next = addressed p;
      is_next = slice_get-map addressed pairs i ∙ ap (option_map addressed) (slice_get-get_or pairs i p w ∙ ap Some (sym here));
      is_part = part;
      itself = ap (λ xs. session xs p.0) err ∙ set_same now p.0 (steps done (session now p.0)) inside ∙ ap (steps done) (stands p.0 beneath);
      others = λ k inside_k apart. ap (λ xs. session xs k) err ∙ set_other now p.0 k (steps done (session now p.0)) (λ e. eqb-false k p.0 apart (sym e)) ∙ stands k inside_k;
    }
