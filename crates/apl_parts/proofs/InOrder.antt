-- The contexts of parts stand in order.
use Rattle.std.proofs.Common.{◌≡◌, ℕ, ◌+◌, All, List, [], ◌∷◌, ◌++◌, map, reverse, Option, Some, None, refl, sym, subst, arith}
use Rattle.std.specs.Option.{option_map}
use Rattle.std.proofs.lemmas.List.Elements.{All-head, All-tail}
use Rattle.apl_arrays.specs.Cells.{Arr}
use Rattle.apl_defn.specs.Definitions.{Text, line_of}
use Rattle.apl_translate.specs.declared.form.Form.{Form}
use Rattle.apl_translate.specs.declared.form.Form.TheVariants as forms
use Rattle.apl_translate.specs.declared.form.Placed.{Placed}
use Rattle.apl_translate.specs.Binding.{bound_of}
use Rattle.apl_translate.specs.Forms.{forms_after, wanted, wanted_kinds}
use Rattle.apl_translate.specs.Phrase.{B}
use Rattle.apl_machine_state.specs.declared.operand.Operand.{Operand}
use Rattle.apl_machine_state.specs.Items.{kind_of_operand}
use Rattle.apl_machine_state.specs.Environment as model
use Rattle.apl_order.specs.Order.{AreInOrder, hole, holes, HasHoles, IsAtLine, IsBelow, IsSuspended}
use Rattle.apl_order.proofs.Standing.{AreIdle, ArePendent, call-above, execute-above, idle-order, statement-above}
use Rattle.apl_frames.specs.declared.frame.Stage.TheVariants.{Pendent}
use Rattle.apl_frames.specs.Flat.{content_at, filled, holed, rest_with, stack_after}
use Rattle.apl_contexts.specs.Contexts.{Place, Newest, Beneath, Idle}
use Rattle.apl_parts.specs.declared.parts.ContextPart.{ContextPart}
use Rattle.apl_parts.specs.declared.parts.ContextPart.TheVariants.{Statement, Call, Execute}
use Rattle.apl_parts.specs.Pieces.{Waiting}
use Rattle.apl_parts.specs.Restored.{AreStanding, FitsWaiting, IsContext, IsWaiting, IsWaitingIn, context_of, line_by, place_under, rest_of, waiting_in}
use Rattle.apl_parts.specs.Promises.{WholePartsStandInOrder}
use Rattle.apl_parts.proofs.Added.{all_reverse, map_reverse}

-- ---- a line that waits has one hole

no-hole : (cs : List Arr) (f : Form) (st : List Operand) → hole (content_at cs f st) ≡ 0
no-hole cs (forms.Constant k) st = refl
no-hole cs (forms.Word w) st = refl
no-hole cs forms.Given st = refl
no-hole cs forms.Slots st = refl

pub none-filled : (cs : List Arr) (ps : List Placed) (st : List Operand) → holes (filled cs ps st) ≡ 0
none-filled cs [] st = refl
none-filled cs (p ∷ ps) st =
    let first : hole (content_at cs p.form st) ≡ 0 = no-hole cs p.form st in
    let others : holes (filled cs ps (stack_after p.form st)) ≡ 0 = none-filled cs ps (stack_after p.form st) in
    omega arith

first-holed : (cs : List Arr) (f : Form) (at : ℕ) (ps : List Placed) (st : List Operand) → B ∷ map kind_of_operand st ≡ wanted f ++ wanted_kinds ps
    → (B ∷ map kind_of_operand st ≡ wanted_kinds ps → holes (holed cs ps st) ≡ 1) → holes (holed cs (record { form = f; at = at } ∷ ps) st) ≡ 1
first-holed cs (forms.Constant k) at ps st h g = let e : holes (holed cs ps st) ≡ 1 = g h in omega arith
first-holed cs (forms.Word w) at ps st h g = let e : holes (holed cs ps st) ≡ 1 = g h in omega arith
first-holed cs forms.Given at ps st h g = let e : holes (filled cs ps st) ≡ 0 = none-filled cs ps st in omega arith
first-holed cs forms.Slots at ps st h g = cc

pub one-holed : (cs : List Arr) (ps : List Placed) (st : List Operand) → B ∷ map kind_of_operand st ≡ wanted_kinds ps → holes (holed cs ps st) ≡ 1
one-holed cs [] st h = cc
one-holed cs (p ∷ ps) st h = first-holed cs p.form p.at ps st h (one-holed cs ps st)

waiting-hole : (text : Text) (w : Waiting) → IsWaiting text w → holes (rest_of text w).items ≡ 1
waiting-hole text w h =
    let line = bound_of h.tokens w.classes in
    subst (λ r. holes (rest_with Pendent (line_by r w.classes) w.done (reverse w.operands)).items ≡ 1) (sym h.read)
    (one-holed line.constants (forms_after w.done line.items) (reverse w.operands) h.kinds)

-- ---- each part's context

at-line : (c : ContextPart) → IsContext c → IsAtLine (context_of c)
at-line (Statement s) h = tt
at-line (Call c) h = h.0
at-line (Execute s) h = tt

rest-suspended : (text : Text) (o : Option Waiting) → FitsWaiting Idle o → IsSuspended (option_map (rest_of text) o)
rest-suspended text None f = tt
rest-suspended text (Some w) f = absurd f

suspended : (c : ContextPart) → FitsWaiting Idle (waiting_in c) → IsSuspended (model.rest_of (context_of c))
suspended (Statement s) f = absurd f
suspended (Call c) f = rest-suspended (line_of c.definition c.at) c.rest f
suspended (Execute s) f = absurd f

rest-pendent : (text : Text) (o : Option Waiting) → IsWaitingIn text o → FitsWaiting Beneath o → HasHoles 1 (option_map (rest_of text) o)
rest-pendent text None h f = absurd f
rest-pendent text (Some w) h f = waiting-hole text w h

pendent : (c : ContextPart) → IsContext c → FitsWaiting Beneath (waiting_in c) → HasHoles 1 (model.rest_of (context_of c))
pendent (Statement s) h f = waiting-hole s.text s.rest h
pendent (Call c) h f = rest-pendent (line_of c.definition c.at) c.rest h.1 f
pendent (Execute s) h f = waiting-hole s.text s.rest h

newest-fits : (o : Option Waiting) → FitsWaiting Newest o → FitsWaiting Idle o
newest-fits None f = tt
newest-fits (Some w) f = absurd f

-- ---- all of them

abbrev StandsAt : Place → List model.Context → Type 0
StandsAt Newest cs = AreIdle cs
StandsAt Beneath cs = ArePendent cs
StandsAt Idle cs = AreIdle cs

beneath : (c : ContextPart) (cs : List model.Context) → StandsAt (place_under c) cs → IsBelow (context_of c) cs
beneath (Statement s) cs h = statement-above s.text (rest_of s.text s.rest) cs h
beneath (Call c) cs h = call-above c.definition c.at _ (option_map (rest_of (line_of c.definition c.at)) c.rest) cs h
beneath (Execute s) cs h = execute-above s.text (rest_of s.text s.rest) cs h

stands : (p : Place) (parts : List ContextPart) → All IsContext parts → AreStanding p parts → StandsAt p (map context_of parts)
stands Newest [] h s = tt
stands Beneath [] h s = s
stands Idle [] h s = tt
stands Newest (c ∷ cs) h s =
    (at-line c (All-head IsContext c cs h), suspended c (newest-fits (waiting_in c) s.0), beneath c (map context_of cs) (stands (place_under c) cs (All-tail IsContext c cs h) s.1))
stands Beneath (c ∷ cs) h s =
    (at-line c (All-head IsContext c cs h), pendent c (All-head IsContext c cs h) s.0, beneath c (map context_of cs) (stands (place_under c) cs (All-tail IsContext c cs h) s.1))
stands Idle (c ∷ cs) h s =
    (at-line c (All-head IsContext c cs h), suspended c s.0, beneath c (map context_of cs) (stands (place_under c) cs (All-tail IsContext c cs h) s.1))

pub whole-order : WholePartsStandInOrder
whole-order p w =
    subst AreInOrder (map_reverse context_of p.contexts) (idle-order (map context_of (reverse p.contexts)) (stands Newest (reverse p.contexts) (all_reverse IsContext p.contexts w.contexts) w.standing))
