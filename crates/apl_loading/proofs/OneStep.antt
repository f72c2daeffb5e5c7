-- One context above those that stand.
use Rattle.std.proofs.Common.{◌≡◌, inl, inr, ℕ, ◌+◌, ◌-◌, ◌≤◌, false, List, [], Option, Some, None, refl, sym, ap, ◌∙◌, subst}
use Rattle.std.specs.Prelude.{slice_get}
use Rattle.apl_arrays.specs.Cells.{Arr}
use Rattle.apl_code.specs.declared.instr.Action.{Action}
use Rattle.apl_code.specs.declared.instr.Instr.{Instr}
use Rattle.apl_defn.specs.Definitions.{Text}
use Rattle.apl_listing.specs.Listing.{listed}
use Rattle.apl_machine_state.specs.declared.operand.Operand.{Operand}
use Rattle.apl_translate.specs.Binding.{bound_of}
use Rattle.apl_translate.specs.Translation.{Translates}
use Rattle.apl_translate.proofs.OneCode.{one_code}
use Rattle.apl_parts.specs.declared.parts.ContextPart.{ContextPart}
use Rattle.apl_parts.specs.declared.parts.ContextPart.TheVariants as parts
use Rattle.apl_parts.specs.Pieces.{Waiting}
use Rattle.apl_parts.specs.Restored.{waiting_in}
use Rattle.apl_workspace_file.specs.declared.fields.ContextField.{ContextField}
use Rattle.apl_workspace_file.specs.declared.fields.ContextField.TheVariants as fields
use Rattle.apl_workspace_file.specs.declared.fields.RestField.{RestField}
use Rattle.apl_saved.specs.Spelled.{BothOrNeither, IsContextOf, IsRestOf}
use Rattle.apl_saved.specs.Rules.{Calls, Follows, IsContext, StandsOn, counted, text_of}
use Rattle.apl_loading.specs.declared.error.LoadFault.{LoadFault}
use Rattle.apl_loading.specs.declared.error.LoadFault.TheVariants as fault
use Rattle.apl_loading.specs.Refusals.{AreSmall, AreValues, Below, HasDefinition, IsNextContext, RefusesContext, TakesContext, counts, relisted, relisted_rest, with_listing}
use Rattle.apl_loading.specs.inside.Made.{Fits, IsAwaited, IsBelow, IsBuilt, IsListed, IsListedRest, IsMadeIn, IsMadeOf, MayStand, RefusesPart}
use Rattle.apl_loading.proofs.OneContext.{same_context}
use Rattle.apl_loading.proofs.OneLine.{same_tokens}

-- ---- what awaits, and what stands above

stands_on : (text : Text) (rest : Option Waiting) (awaits : Option Action) (listing : List ℕ) (c : ContextPart) → IsMadeIn text rest awaits listing → Fits awaits c → StandsOn text rest c
stands_on text None None listing c m h = h
stands_on text None (Some a) listing c m h = absurd m
stands_on text (Some w) None listing c m h = absurd m
stands_on text (Some w) (Some a) listing c m h = record { tokens = m.tokens; read = m.read; code = m.made.code; translates = m.made.line.translates; last = m.made.last; is_last = m.made.is_last; calls = subst (λ x. Calls x c) (sym m.made.acts) h }

one_last : (a b : Instr) → ◌≡◌ {A = Option Instr} (Some a) (Some b) → a ≡ b
one_last a b h = cc

fits_on : (text : Text) (rest : Option Waiting) (awaits : Option Action) (listing : List ℕ) (c : ContextPart) → IsMadeIn text rest awaits listing → StandsOn text rest c → Fits awaits c
fits_on text None None listing c m h = h
fits_on text None (Some a) listing c m h = absurd m
fits_on text (Some w) None listing c m h = absurd m
fits_on text (Some w) (Some a) listing c m h =
    let t : h.tokens ≡ m.tokens = same_tokens text h.tokens m.tokens h.read m.read in
    let k : h.code ≡ m.made.code = one_code h.code m.made.code false (bound_of m.tokens w.classes).items (subst (λ ts. Translates h.code false (bound_of ts w.classes).items) t h.translates) m.made.line.translates in
    let l : h.last ≡ m.made.last = one_last h.last m.made.last (sym h.is_last ∙ ap (λ is. slice_get is (w.done - 1)) k ∙ m.made.is_last) in
    subst (λ x. Calls x c) (ap (λ (i : Instr). i.action) l ∙ m.made.acts) h.calls

pub follows : (awaits : Option Action) (below : Option ContextPart) (c : ContextPart) → IsAwaited awaits below → Fits awaits c → Follows below c
follows awaits None c a h = subst (λ x. Fits x c) a h
follows awaits (Some b) c a h = stands_on (text_of b) (waiting_in b) awaits a.0 c a.1 h

pub fits : (awaits : Option Action) (below : Option ContextPart) (c : ContextPart) → IsAwaited awaits below → Follows below c → Fits awaits c
fits awaits None c a h = subst (λ x. Fits x c) (sym a) h
fits awaits (Some b) c a h = fits_on (text_of b) (waiting_in b) awaits a.0 c a.1 h

-- ---- listings

rest_again : (f : RestField) (listing : List ℕ) → f.code ≡ listing → with_listing listing f ≡ f
rest_again f listing e = ap (λ l. with_listing l f) (sym e)

pub relisted_again : (f : ContextField) (listing : List ℕ) → IsListed f listing → relisted listing f ≡ f
relisted_again (fields.Statement f) listing h = ap (λ r. fields.Statement (record f { rest = r })) (rest_again f.rest listing h)
relisted_again (fields.Execute f) listing h = ap (λ r. fields.Execute (record f { rest = r })) (rest_again f.rest listing h)
relisted_again (fields.Call f) listing h = ap (λ r. fields.Call (record f { rest = r })) (again f.rest h)
  where
    again : (o : Option RestField) → IsListedRest o listing → relisted_rest listing o ≡ o
    again None h = refl
    again (Some r) h = ap Some (rest_again r listing h)

own_rest : Option RestField → List ℕ
own_rest None = []
own_rest (Some r) = r.code

-- the listing that a field has
pub own : ContextField → List ℕ
own (fields.Statement f) = f.rest.code
own (fields.Call f) = own_rest f.rest
own (fields.Execute f) = f.rest.code

pub own_listed : (f : ContextField) → IsListed f (own f)
unfolding own own_rest
own_listed (fields.Statement f) = refl
own_listed (fields.Execute f) = refl
own_listed (fields.Call f) = of_rest f.rest
  where
    of_rest : (o : Option RestField) → IsListedRest o (own_rest o)
    of_rest None = tt
    of_rest (Some r) = refl

-- the listing of a line is that of its code
listed_rest : (f : RestField) (text : Text) (w : Waiting) (action : Action) (listing : List ℕ) → IsRestOf f text w → IsMadeOf text w action listing → f.code ≡ listing
listed_rest f text w action listing g m =
    let t : g.code.tokens ≡ m.tokens = same_tokens text g.code.tokens m.tokens g.code.read m.read in
    let k : g.code.code ≡ m.made.code = one_code g.code.code m.made.code false (bound_of m.tokens w.classes).items (subst (λ ts. Translates g.code.code false (bound_of ts w.classes).items) t g.code.translates) m.made.line.translates in
    g.code.listed ∙ ap (listed 0) k ∙ sym m.made.lists

listed_in : (o : Option RestField) (text : Text) (rest : Option Waiting) (awaits : Option Action) (listing : List ℕ) → BothOrNeither (λ r w. IsRestOf r text w) o rest → IsMadeIn text rest awaits listing → IsListedRest o listing
listed_in None text None awaits listing g m = tt
listed_in None text (Some w) awaits listing g m = absurd g
listed_in (Some f) text None awaits listing g m = absurd g
listed_in (Some f) text (Some w) (Some a) listing g m = listed_rest f text w a listing g m
listed_in (Some f) text (Some w) None listing g m = absurd m

is_listed : (f : ContextField) (c : ContextPart) (awaits : Option Action) (listing : List ℕ) → IsContextOf f c → IsMadeIn (text_of c) (waiting_in c) awaits listing → IsListed f listing
is_listed (fields.Statement f) (parts.Statement s) (Some a) listing g m = listed_rest f.rest s.text s.rest a listing g.rest m
is_listed (fields.Statement f) (parts.Statement s) None listing g m = absurd m
is_listed (fields.Statement f) (parts.Call c) awaits listing g m = absurd g
is_listed (fields.Statement f) (parts.Execute c) awaits listing g m = absurd g
is_listed (fields.Execute f) (parts.Execute s) (Some a) listing g m = listed_rest f.rest s.text s.rest a listing g.rest m
is_listed (fields.Execute f) (parts.Execute s) None listing g m = absurd m
is_listed (fields.Execute f) (parts.Call c) awaits listing g m = absurd g
is_listed (fields.Execute f) (parts.Statement c) awaits listing g m = absurd g
is_listed (fields.Call f) (parts.Call c) awaits listing g m = listed_in f.rest (text_of (parts.Call c)) c.rest awaits listing g.rest m
is_listed (fields.Call f) (parts.Statement c) awaits listing g m = absurd g
is_listed (fields.Call f) (parts.Execute c) awaits listing g m = absurd g

pub same_count : (f : ContextField) (listing : List ℕ) (c : ContextPart) → IsContextOf (relisted listing f) c → counted c ≡ counts f
same_count (fields.Statement f) listing (parts.Statement c) g = refl
same_count (fields.Statement f) listing (parts.Call c) g = absurd g
same_count (fields.Statement f) listing (parts.Execute c) g = absurd g
same_count (fields.Call f) listing (parts.Call c) g = refl
same_count (fields.Call f) listing (parts.Statement c) g = absurd g
same_count (fields.Call f) listing (parts.Execute c) g = absurd g
same_count (fields.Execute f) listing (parts.Execute c) g = refl
same_count (fields.Execute f) listing (parts.Call c) g = absurd g
same_count (fields.Execute f) listing (parts.Statement c) g = absurd g

has_definition : (f : ContextField) (listing : List ℕ) (c : ContextPart) → IsContextOf (relisted listing f) c → IsContext c → HasDefinition f
has_definition (fields.Statement f) listing c g r = tt
has_definition (fields.Execute f) listing c g r = tt
has_definition (fields.Call f) listing (parts.Call c) g r = (c.definition, (g.definition, r.defined))
has_definition (fields.Call f) listing (parts.Statement c) g r = absurd g
has_definition (fields.Call f) listing (parts.Execute c) g r = absurd g

-- ---- the refusals of a context

module _ (awaits : Option Action) (standing : ℕ) (s : Below) (behind : List ContextField) (f : ContextField) (below : IsBelow awaits standing s) where
  pub refused_limit : ¬ AreSmall standing f → RefusesContext s behind f fault.Limit
  refused_limit h = inl (subst (λ n. ¬ AreSmall n f) (sym below.count) h, refl)

  pub small : AreSmall standing f → AreSmall s.standing f
  small h = subst (λ n. AreSmall n f) (sym below.count) h

  pub refused_values : (e : LoadFault) → AreSmall standing f → (e ≡ fault.Array) × ((values : List (Option Arr)) (operands : List Operand) → ¬ AreValues f values operands) → RefusesContext s behind f e
  refused_values e l h = inr (small l, inl (λ x. h.1 x.0 x.1 x.2, h.0))

  pub refused_part : (e : LoadFault) (values : List (Option Arr)) (operands : List Operand) → AreSmall standing f → AreValues f values operands → RefusesPart f e → RefusesContext s behind f e
  refused_part e values operands l v (inl h) = inr (small l, inr ((values, operands, v), inl h))
  refused_part e values operands l v (inr (d, inl h)) = inr (small l, inr ((values, operands, v), inr (d, inl (λ x. h.0 (x.0, x.1, x.2.field, x.2.context), h.1))))
  refused_part e values operands l v (inr (d, inr h)) = absurd h.1

module _ (awaits : Option Action) (standing : ℕ) (s : Below) (behind : List ContextField) (f : ContextField) (below : IsBelow awaits standing s) (values : List (Option Arr)) (operands : List Operand) (l : AreSmall standing f) (v : AreValues f values operands) (c : ContextPart) (calls : Option Action) (listing : List ℕ) (b : IsBuilt f c calls listing) where
  pub refused_place : ¬ MayStand awaits behind c → RefusesContext s behind f fault.Context
  refused_place h = inr (subst (λ n. AreSmall n f) (sym below.count) l, inr ((values, operands, v), inr (has_definition f listing c b.field b.context, inl (λ x. none x.0 x.1 x.2, refl))))
    where
      none : (m : List ℕ) (d : ContextPart) → ¬ IsNextContext s behind (relisted m f) d
      none m d n =
          let e : d ≡ c = same_context f m listing d c n.field n.context b.field b.context in
          h (subst (Fits awaits) e (fits awaits s.below d below.awaited n.follows), λ g. subst (λ x. waiting_in x ≡ None) e (n.ends g))

  next : MayStand awaits behind c → IsNextContext s behind (relisted listing f) c
  next h = record { field = b.field; context = b.context; follows = follows awaits s.below c below.awaited h.0; ends = h.1 }

  pub refused_code : MayStand awaits behind c → ¬ IsListed f listing → RefusesContext s behind f fault.Code
  refused_code h other = inr (subst (λ n. AreSmall n f) (sym below.count) l, inr ((values, operands, v), inr (has_definition f listing c b.field b.context, inr ((listing, c, next h), inl (λ x. none x.0 x.1, refl)))))
    where
      none : (d : ContextPart) → ¬ IsNextContext s behind f d
      none d n =
          let g : IsContextOf (relisted (own f) f) d = subst (λ x. IsContextOf x d) (sym (relisted_again f (own f) (own_listed f))) n.field in
          let e : d ≡ c = same_context f (own f) listing d c g n.context b.field b.context in
          other (is_listed f c calls listing (subst (IsContextOf f) e n.field) b.made)

  pub taken : MayStand awaits behind c → IsListed f listing → TakesContext s behind f c
  taken h k = (
    subst (λ n. n + counted c ≤ 256) (sym below.count) (subst (λ n. standing + n ≤ 256) (sym (same_count f listing c b.field)) l.few),
    subst (λ g. IsNextContext s behind g c) (relisted_again f listing k) (next h),
  )
