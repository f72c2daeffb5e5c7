-- A line that awaits an answer, in parts and put together again.
use Rattle.std.proofs.Common.{◌≡◌, ℕ, zero, suc, ◌≤◌, false, List, [], ◌∷◌, map, take, reverse, refl, sym, ap, subst, ◌∙◌, arith}
use Rattle.apl_arrays.specs.Cells.{Arr}
use Rattle.apl_listing.specs.Kinds.{kinds}
use Rattle.apl_defn.specs.Definitions.{Text}
use Rattle.apl_translate.specs.declared.form.Placed.{Placed}
use Rattle.apl_translate.specs.Binding.{bound_of}
use Rattle.apl_translate.specs.Forms.{IsFresh, forms_after, wanted_kinds}
use Rattle.apl_translate.specs.Lines.{Line}
use Rattle.apl_translate.specs.Phrase.{Kind, B}
use Rattle.apl_translate.specs.Translation.{Translates}
use Rattle.apl_machine_state.specs.declared.operand.Operand.{Operand}
use Rattle.apl_machine_state.specs.Items.{Rest, kind_of_operand, operand_stack}
use Rattle.apl_machine_state.specs.Environment.{Context}
use Rattle.apl_order.specs.Order.{holes}
use Rattle.apl_frames.specs.declared.frame.Stage.{Stage}
use Rattle.apl_frames.specs.declared.frame.Stage.TheVariants.{Ready, Pendent, Emptied}
use Rattle.apl_frames.specs.Flat.{flat_rest, items_at, rest_with}
use Rattle.apl_frames.proofs.Pendent.{kinds_awaited}
use Rattle.apl_frames.proofs.Standing.{stack_of_line}
use Rattle.apl_parts.specs.Pieces.{Waiting}
use Rattle.apl_parts.specs.Taken.{classes_of, part_of, waiting_of}
use Rattle.apl_parts.specs.Restored as restored
use Rattle.apl_parts.proofs.InOrder.{none-filled}
use Rattle.apl_saved.specs.Rules.{Awaits, IsPendent}
use Rattle.apl_savable.specs.Savable.{AreLeft, HasCalled, IsUnderWay}
use Rattle.apl_savable.proofs.Classes.{classes-again}

-- ---- holes

one-zero : ◌≡◌ {A = ℕ} 0 1 → ⊥
one-zero h = cc

-- a line with a hole awaits an answer
pendent-by : (stage : Stage) (cs : List Arr) (ps : List Placed) (st : List Operand) → holes (items_at stage cs ps st) ≡ 1 → stage ≡ Pendent
pendent-by Ready cs ps st h = absurd (one-zero (sym (none-filled cs ps st) ∙ h))
pendent-by Pendent cs ps st h = refl
pendent-by Emptied cs ps st h = absurd (one-zero h)

pub pendent-line : (text : Text) (rest : Rest) (u : IsUnderWay text rest) → holes rest.items ≡ 1 → u.line.stage ≡ Pendent
pendent-line text rest u h = pendent-by u.line.stage u.line.bound.constants (forms_after u.line.done u.line.bound.items) (reverse u.line.operands) (ap (λ (r : Rest). holes r.items) (sym u.is) ∙ h)

-- ---- what is kept of it

pub waiting-is : (text : Text) (rest : Rest) (u : IsUnderWay text rest) → waiting_of rest ≡ record { classes = u.classes; done = u.line.done; operands = u.line.operands }
waiting-is text rest u =
    let bound : classes_of u.line.bound.items ≡ u.classes = ap (λ (l : Line). classes_of l.items) u.bound ∙ classes-again u.tokens u.classes u.as_many in
    ap waiting_of u.is
    ∙ ap (λ cs. record { classes = cs; done = u.line.done; operands = operand_stack (flat_rest u.line).items }) bound
    ∙ ap (λ os. record { classes = u.classes; done = u.line.done; operands = os }) (stack_of_line u.line u.stands)

-- the same line again
pub rest-again : (text : Text) (rest : Rest) (u : IsUnderWay text rest) → u.line.stage ≡ Pendent → restored.rest_of text (waiting_of rest) ≡ rest
rest-again text rest u e =
    let st = reverse u.line.operands in
    ap (restored.rest_of text) (waiting-is text rest u)
    ∙ ap (λ r. rest_with Pendent (restored.line_by r u.classes) u.line.done st) u.read
    ∙ ap (λ l. rest_with Pendent l u.line.done st) (sym u.bound)
    ∙ ap (λ g. rest_with g u.line.bound u.line.done st) (sym e)
    ∙ sym u.is

-- some phrase is done where an answer is awaited
some-done : (n : ℕ) (ps : List Placed) (ks : List Kind) → IsFresh ps → B ∷ ks ≡ wanted_kinds (forms_after n ps) → 1 ≤ n
some-done zero ps ks f h = let e : B ∷ ks ≡ [] = h ∙ f in cc
some-done (suc n) ps ks f h = omega arith

pub pendent-part : (text : Text) (rest : Rest) (u : IsUnderWay text rest) → u.line.stage ≡ Pendent → IsPendent text (waiting_of rest)
pendent-part text rest u e = subst (IsPendent text) (sym (waiting-is text rest u)) (record {
  tokens = u.tokens;
  read = u.read;
  code = u.line.code;
  line = record {
    as_many = u.as_many;
    translates = subst (λ (l : Line). Translates u.line.code false l.items) u.bound u.stands.translates;
    begun = some-done u.line.done u.line.bound.items (map kind_of_operand (reverse u.line.operands)) u.stands.fresh (kinds_awaited u.line u.stands e);
    runs = u.stands.runs;
    kinds = subst (λ (g : Stage). AreLeft g (kinds [] (take u.line.done u.line.code)) u.line.operands) e u.left;
  };
})

-- what stands above is what it calls
pub awaits-part : (text : Text) (rest : Rest) (above : Context) → IsUnderWay text rest → HasCalled rest above → Awaits text (waiting_of rest) (part_of above)
awaits-part text rest above u c =
    let bound : rest.bound ≡ bound_of u.tokens u.classes = ap (λ (r : Rest). r.bound) u.is ∙ u.bound in
    let same : u.classes ≡ (waiting_of rest).classes = ap (λ (w : Waiting). w.classes) (sym (waiting-is text rest u)) in
    record {
      tokens = u.tokens;
      read = u.read;
      code = c.code;
      translates = subst (λ (l : Line). Translates c.code false l.items) (bound ∙ ap (bound_of u.tokens) same) c.translates;
      last = c.last;
      is_last = c.is_last;
      calls = c.calls;
    }
