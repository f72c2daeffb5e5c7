-- What an index list is made of: values alone.
use Rattle.std.proofs.Common.{◌≡◌, ℕ, suc, Bool, true, false, List, [], ◌∷◌, take, drop, map, Option, Some, None, refl, sym, ap, ◌∙◌, subst}
use Rattle.std.specs.Prelude.{is_none, if◌then◌else◌}
use Rattle.std.proofs.lemmas.List.{drop-map, take-map}
use Rattle.apl_arrays.specs.Cells.{Arr}
use Rattle.apl_code.specs.declared.instr.Source.{Source}
use Rattle.apl_code.specs.declared.row.Function.{Function as AnyFunction}
use Rattle.apl_code.specs.declared.row.Variable.{Variable as AnyVariable}
use Rattle.apl_code.specs.declared.row.Row.{Row}
use Rattle.apl_code.specs.declared.row.Row.TheVariants.{Group, Index, Read, Call, Select, Monadic, MonadicAxis, Reduce, ReduceAxis, Dyadic, DyadicAxis, Inner, Outer, Assign, AssignIndexed, Show}
use Rattle.apl_listing.specs.Kinds.{is_empty}
use Rattle.apl_translate.specs.declared.form.Word.TheVariants.{Variable, Niladic, Function, Operator, Dot, Jot, LeftArrow, OpenParenthesis, CloseParenthesis, OpenBracket, CloseBracket, CloseAxis, Semicolon, Quad}
use Rattle.apl_translate.specs.Phrase.{Kind, B, K, W, when, ends, opens, more, slots_width, index_list, at_value, at_variable, at_niladic, at_function, at_open, at_quad, row, phrase}
use Rattle.apl_translate.specs.Translation.{arguments, closed, slots}
use Rattle.apl_translate.specs.Scan.{last_kind}
use Rattle.apl_translate.proofs.Settled.{found_at}
use Rattle.apl_machine_state.specs.declared.operand.Operand.{Operand}
use Rattle.apl_machine_state.specs.declared.operand.Operand.TheVariants.{Value, Slots}
use Rattle.apl_machine_state.specs.Items.{Awaited, Constant, Content, Given, Item, Reads, cell_of, cells, kind_of, kinds}
use Rattle.apl_machine_state.specs.Outcomes.{operand_value}
use Rattle.apl_operands.specs.Operands.{fetched, fetched_one, unfetched_one}

-- no index list is among these
abbrev NoLists : List Kind → Type 0
NoLists [] = Unit {0}
NoLists (B ∷ ks) = NoLists ks
NoLists (K ∷ ks) = ⊥
NoLists (W w ∷ ks) = NoLists ks

-- ---- the row of an index list

is_index : Row → Bool
is_index (Index n) = true
is_index r = false

no-index : (c : Bool) (r : Row) (n : ℕ) → is_index r ≡ false → when c r ≡ Some (Index n) → ⊥
unfolding is_index
no-index true r n e h = let same : r ≡ Index n = cc in let f : true ≡ false = sym (ap is_index same) ∙ e in cc
no-index false r n e h = cc

at-value : (ks : List Kind) (n : ℕ) → at_value ks ≡ Some (Index n) → ⊥
unfolding is_index
at-value (K ∷ W LeftArrow ∷ ks) n h = cc
at-value (K ∷ ks) n h = no-index true Select n refl h
at-value (W (Function f) ∷ B ∷ ks) n h = no-index _ (Dyadic f) n refl h
at-value (W (Function f) ∷ K ∷ B ∷ ks) n h = no-index _ (DyadicAxis f) n refl h
at-value (W (Function f) ∷ W Dot ∷ W (Function g) ∷ B ∷ ks) n h = no-index _ (Inner f g) n refl h
at-value (W Jot ∷ W Dot ∷ W (Function g) ∷ B ∷ ks) n h = no-index _ (Outer g) n refl h
at-value ks n h = cc

at-variable : (v : AnyVariable) (ks : List Kind) (n : ℕ) → at_variable v ks ≡ Some (Index n) → ⊥
unfolding is_index
at-variable v (W LeftArrow ∷ B ∷ ks) n h = no-index _ (Assign v) n refl h
at-variable v (W LeftArrow ∷ ks) n h = cc
at-variable v (K ∷ W LeftArrow ∷ B ∷ ks) n h = no-index _ (AssignIndexed v) n refl h
at-variable v (K ∷ W LeftArrow ∷ ks) n h = cc
at-variable v (W OpenBracket ∷ ks) n h = cc
at-variable v ks n h = no-index true (Read v) n refl h

at-niladic : (v : AnyVariable) (ks : List Kind) (n : ℕ) → at_niladic v ks ≡ Some (Index n) → ⊥
unfolding is_index
at-niladic v (W LeftArrow ∷ ks) n h = cc
at-niladic v ks n h = no-index true (Call v) n refl h

at-function : (f : AnyFunction) (ks : List Kind) (n : ℕ) → at_function f ks ≡ Some (Index n) → ⊥
unfolding is_index
at-function f (B ∷ ks) n h = no-index _ (Monadic f) n refl h
at-function f (K ∷ B ∷ ks) n h = no-index _ (MonadicAxis f) n refl h
at-function f (W (Operator m) ∷ B ∷ ks) n h = no-index _ (Reduce f m) n refl h
at-function f (W (Operator m) ∷ K ∷ B ∷ ks) n h = no-index _ (ReduceAxis f m) n refl h
at-function f ks n h = cc

opened : (b : Bool) (f : AnyFunction) (ks : List Kind) (n : ℕ) → (if b then at_function f ks else None) ≡ Some (Index n) → ⊥
opened true f ks n h = at-function f ks n h
opened false f ks n h = cc

at-open : (ks : List Kind) (n : ℕ) → at_open ks ≡ Some (Index n) → ⊥
unfolding is_index
at-open (B ∷ W CloseParenthesis ∷ ks) n h = no-index true Group n refl h
at-open ks n h = cc

at-quad : (ks : List Kind) (n : ℕ) → at_quad ks ≡ Some (Index n) → ⊥
unfolding is_index
at-quad (W LeftArrow ∷ B ∷ ks) n h = no-index _ Show n refl h
at-quad (W LeftArrow ∷ ks) n h = cc
at-quad ks n h = cc

-- ---- its slots

more-is : (o : Option ℕ) (n : ℕ) → more o ≡ Some n → (m : ℕ) × (o ≡ Some m) × (n ≡ suc m)
more-is None n h = cc
more-is (Some m) n h = (m, refl, cc)

width-plain : (ks : List Kind) (n : ℕ) → slots_width ks ≡ Some n → NoLists (take n ks)
width-plain (W CloseBracket ∷ ks) n h = let e : n ≡ 1 = cc in subst (λ m. NoLists (take m (W CloseBracket ∷ ks))) (sym e) tt
width-plain (W CloseAxis ∷ ks) n h = let e : n ≡ 1 = cc in subst (λ m. NoLists (take m (W CloseAxis ∷ ks))) (sym e) tt
width-plain (W Semicolon ∷ ks) n h = let m = more-is (slots_width ks) n h in subst (λ j. NoLists (take j (W Semicolon ∷ ks))) (sym m.2) (width-plain ks m.0 m.1)
width-plain (B ∷ ks) n h = by (ends ks) h (λ m. width-plain ks m)
  where
    by : (b : Bool) → (if b then more (slots_width ks) else None) ≡ Some n → ((m : ℕ) → slots_width ks ≡ Some m → NoLists (take m ks)) → NoLists (take n (B ∷ ks))
    by true h f = let m = more-is (slots_width ks) n h in subst (λ j. NoLists (take j (B ∷ ks))) (sym m.2) (f m.0 m.1)
    by false h f = cc
width-plain ks n h = cc

list-plain : (o : Option ℕ) (ks : List Kind) (n : ℕ) → ((m : ℕ) → o ≡ Some m → NoLists (take m ks)) → index_list o ≡ Some (Index n) → NoLists (take n (W OpenBracket ∷ ks))
list-plain None ks n f h = cc
list-plain (Some m) ks n f h = let e : n ≡ suc m = cc in subst (λ j. NoLists (take j (W OpenBracket ∷ ks))) (sym e) (f m refl)

row-plain : (before : Option Kind) (ks : List Kind) (n : ℕ) → row before ks ≡ Some (Index n) → NoLists (take n ks)
row-plain before [] n h = cc
row-plain before (B ∷ ks) n h = absurd (at-value ks n h)
row-plain before (K ∷ ks) n h = cc
row-plain before (W (Variable v) ∷ ks) n h = absurd (at-variable v ks n h)
row-plain before (W (Niladic v) ∷ ks) n h = absurd (at-niladic v ks n h)
row-plain before (W (Function f) ∷ ks) n h = absurd (opened (opens before) f ks n h)
row-plain before (W OpenParenthesis ∷ ks) n h = absurd (at-open ks n h)
row-plain before (W OpenBracket ∷ ks) n h = list-plain (slots_width ks) ks n (λ m e. width-plain ks m e) h
row-plain before (W Quad ∷ ks) n h = absurd (at-quad ks n h)
row-plain before (W w ∷ ks) n h = cc

-- ---- what is held

-- what there is, is a value
abbrev AreValues : List (Option Operand) → Type 0
AreValues [] = Unit {0}
AreValues (None ∷ os) = AreValues os
AreValues (Some (Value a) ∷ os) = AreValues os
AreValues (Some (Slots s) ∷ os) = ⊥

closed-values : (b : Bool) (os : List (Option Operand)) → AreValues os → AreValues (closed b os)
closed-values true os h = h
closed-values false os h = h

slots-values : (is : List Item) (b : Bool) → NoLists (kinds is) → AreValues (slots b (cells is))
slots-values [] b h = tt
slots-values (i ∷ is) b h = by i.content h (λ c. slots-values is c)
  where
    by : (c : Content) → NoLists (kind_of c ∷ kinds is) → ((b : Bool) → NoLists (kinds is) → AreValues (slots b (cells is))) → AreValues (slots b (cell_of c ∷ cells is))
    by (Constant a) h f = f true h
    by (Given (Value a)) h f = f true h
    by (Given (Slots s)) h f = absurd h
    by (Reads w) h f = closed-values b (slots false (cells is)) (f false h)
    by Awaited h f = f true h

fetched-empty : (cs : List Arr) (ss : List (Option Source)) (st : List Operand) → AreValues (fetched cs ss st) → map is_none (map operand_value (fetched cs ss st)) ≡ map is_empty ss
fetched-empty cs [] st h = refl
fetched-empty cs (None ∷ ss) st h = ap (λ (l : List Bool). true ∷ l) (fetched-empty cs ss st h)
fetched-empty cs (Some s ∷ ss) st h = by (fetched_one cs s st) h (fetched-empty cs ss (unfetched_one s st))
  where
    by : (o : Operand) → AreValues (Some o ∷ fetched cs ss (unfetched_one s st)) → (AreValues (fetched cs ss (unfetched_one s st)) → map is_none (map operand_value (fetched cs ss (unfetched_one s st))) ≡ map is_empty ss)
        → map is_none (map operand_value (Some o ∷ fetched cs ss (unfetched_one s st))) ≡ false ∷ map is_empty ss
    by (Value a) h f = ap (λ (l : List Bool). false ∷ l) (f h)
    by (Slots k) h f = absurd h

-- the empty slots of an index list are those of its instruction
pub empty-slots : (is : List Item) (n m : ℕ) (cs : List Arr) (ss : List (Option Source)) (st : List Operand) → phrase None (kinds is) ≡ Some (n, Index m) → arguments (Index m) (cells (take m (drop n is))) ≡ fetched cs ss st
    → map is_none (map operand_value (arguments (Index m) (cells (take m (drop n is))))) ≡ map is_empty ss
empty-slots is n m cs ss st h e =
    let f = found_at None (kinds is) n (Index m) h in
    let plain : NoLists (take m (drop n (kinds is))) = row-plain (last_kind None (take n (kinds is))) (drop n (kinds is)) m f.here in
    let same : take m (drop n (kinds is)) ≡ kinds (take m (drop n is)) = ap (take m) (drop-map (λ (i : Item). kind_of i.content) n is) ∙ take-map (λ (i : Item). kind_of i.content) m (drop n is) in
    let values : AreValues (arguments (Index m) (cells (take m (drop n is)))) = slots-values (take m (drop n is)) true (subst NoLists same plain) in
    ap (λ os. map is_none (map operand_value os)) e ∙ fetched-empty cs ss st (subst AreValues e values)
