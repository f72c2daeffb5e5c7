-- The function that chooses phrases keeps to the table.
use Rattle.std.proofs.Common.{◌≡◌, ℕ, zero, suc, ◌<◌, Bool, true, false, List, [], ◌∷◌, ◌++◌, length, take, drop, Option, Some, None, refl, sym, ap, ◌∙◌, subst, arith}
use Rattle.std.specs.Prelude.{◌&&◌, if◌then◌else◌}
use Rattle.apl_code.specs.declared.row.Function.{Function as AnyFunction}
use Rattle.apl_code.specs.declared.row.Function.TheVariants as functions
use Rattle.apl_code.specs.declared.row.Variable.{Variable as AnyVariable}
use Rattle.apl_code.specs.declared.row.Row.{Row}
use Rattle.apl_code.specs.declared.row.Row.TheVariants.{Group, Index, Read, Call, Select, Monadic, MonadicAxis, Reduce, ReduceAxis, Dyadic, DyadicAxis, Inner, Outer, Assign, AssignIndexed, Show}
use Rattle.apl_translate.specs.declared.form.Word.TheVariants.{Variable, Niladic, Function, Operator, Dot, Jot, LeftArrow, RightArrow, OpenParenthesis, CloseParenthesis, OpenBracket, CloseBracket, CloseAxis, Semicolon, Quad}
use Rattle.apl_translate.specs.Phrase.{Kind, B, K, W, when, is_scalar, ends, opens, more, slots_width, index_list, at_value, at_variable, at_niladic, at_function, at_open, at_quad, row, or_here, phrase, width, place}
use Rattle.apl_translate.specs.Scan.{last_kind}
use Rattle.apl_translate.specs.Table as table
use Rattle.apl_translate.specs.Table.{HasNoLeft, Ends, IsScalar, IsNotBefore, AreSlots, IsPhrase, Begins, BeginsAfter, IsFurthest}
use Rattle.apl_translate.proofs.Phrases.{more_is, none_right, none_here}
use Rattle.apl_translate.proofs.Settled.{found_at, pair_is}

-- ---- the conditions

opens_is : {before : Option Kind} → HasNoLeft before → opens before ≡ true
opens_is table.stands_first = refl
opens_is table.behind_left_arrow = refl
opens_is table.behind_right_arrow = refl
opens_is table.behind_parenthesis = refl
opens_is table.behind_bracket = refl
opens_is table.behind_semicolon = refl
opens_is table.behind_function = refl
opens_is table.behind_operator = refl
opens_is table.behind_axis = refl

has_no_left : (before : Option Kind) → opens before ≡ true → HasNoLeft before
has_no_left None h = table.stands_first
has_no_left (Some (W LeftArrow)) h = table.behind_left_arrow
has_no_left (Some (W RightArrow)) h = table.behind_right_arrow
has_no_left (Some (W OpenParenthesis)) h = table.behind_parenthesis
has_no_left (Some (W OpenBracket)) h = table.behind_bracket
has_no_left (Some (W Semicolon)) h = table.behind_semicolon
has_no_left (Some (W (Function f))) h = table.behind_function
has_no_left (Some (W (Operator m))) h = table.behind_operator
has_no_left (Some (W CloseAxis)) h = table.behind_axis
has_no_left before h = cc

ends_is : {ks : List Kind} → Ends ks → ends ks ≡ true
ends_is table.stands_last = refl
ends_is table.before_parenthesis = refl
ends_is table.before_bracket = refl
ends_is table.before_axis = refl
ends_is table.before_semicolon = refl

ending : (ks : List Kind) → ends ks ≡ true → Ends ks
ending [] h = table.stands_last
ending (W CloseParenthesis ∷ ks) h = table.before_parenthesis
ending (W CloseBracket ∷ ks) h = table.before_bracket
ending (W CloseAxis ∷ ks) h = table.before_axis
ending (W Semicolon ∷ ks) h = table.before_semicolon
ending ks h = cc

scalar_is : {f : AnyFunction} → IsScalar f → is_scalar f ≡ true
scalar_is (table.primitive h) = h

scalar : (f : AnyFunction) → is_scalar f ≡ true → IsScalar f
scalar (functions.Primitive f) h = table.primitive h
scalar f h = cc

slots_is : (rest : List Kind) {slots : List Kind} → AreSlots slots → slots_width (slots ++ rest) ≡ Some (length slots)
slots_is rest (table.empty_last table.bracket) = refl
slots_is rest (table.empty_last table.axis) = refl
slots_is rest (table.value_last table.bracket) = refl
slots_is rest (table.value_last table.axis) = refl
slots_is rest (table.empty_slot s) = ap more (slots_is rest s)
slots_is rest (table.value_slot s) = ap (λ o. more (more o)) (slots_is rest s)

-- the items begin with the slots of an index list, which are so many
record HasSlots (ks : List Kind) (n : ℕ) : Type 0 where
  slots : List Kind
  rest : List Kind
  whole : ks ≡ slots ++ rest
  are : AreSlots slots
  count : n ≡ length slots

has_slots : (ks : List Kind) (n : ℕ) → slots_width ks ≡ Some n → HasSlots ks n
has_slots (W CloseBracket ∷ ks) n h = record { slots = W CloseBracket ∷ []; rest = ks; whole = refl; are = table.empty_last table.bracket; count = cc }
has_slots (W CloseAxis ∷ ks) n h = record { slots = W CloseAxis ∷ []; rest = ks; whole = refl; are = table.empty_last table.axis; count = cc }
has_slots (W Semicolon ∷ ks) n h =
    let m = more_is (slots_width ks) n h in
    let s = has_slots ks m.0 m.1 in
    record { slots = W Semicolon ∷ s.slots; rest = s.rest; whole = ap (λ js. W Semicolon ∷ js) s.whole; are = table.empty_slot s.are; count = m.2 ∙ ap suc s.count }
has_slots (B ∷ W CloseBracket ∷ ks) n h = record { slots = B ∷ W CloseBracket ∷ []; rest = ks; whole = refl; are = table.value_last table.bracket; count = cc }
has_slots (B ∷ W CloseAxis ∷ ks) n h = record { slots = B ∷ W CloseAxis ∷ []; rest = ks; whole = refl; are = table.value_last table.axis; count = cc }
has_slots (B ∷ W Semicolon ∷ ks) n h =
    let m = more_is (more (slots_width ks)) n h in
    let l = more_is (slots_width ks) m.0 m.1 in
    let s = has_slots ks l.0 l.1 in
    record { slots = B ∷ W Semicolon ∷ s.slots; rest = s.rest; whole = ap (λ js. B ∷ W Semicolon ∷ js) s.whole; are = table.value_slot s.are; count = m.2 ∙ ap suc (l.2 ∙ ap suc s.count) }
has_slots ks n h = cc

-- ---- what the table says is chosen

read_is : (v : AnyVariable) (ks : List Kind) → IsNotBefore (W LeftArrow ∷ []) ks → IsNotBefore (W OpenBracket ∷ []) ks → IsNotBefore (K ∷ W LeftArrow ∷ []) ks → at_variable v ks ≡ Some (Read v)
read_is v (W LeftArrow ∷ ks) a b c = absurd (a ks refl)
read_is v (K ∷ W LeftArrow ∷ ks) a b c = absurd (c ks refl)
read_is v (W OpenBracket ∷ ks) a b c = absurd (b ks refl)
read_is v ks a b c = refl

call_is : (n : AnyVariable) (ks : List Kind) → IsNotBefore (W LeftArrow ∷ []) ks → at_niladic n ks ≡ Some (Call n)
call_is n (W LeftArrow ∷ ks) a = absurd (a ks refl)
call_is n ks a = refl

select_is : (ks : List Kind) → IsNotBefore (W LeftArrow ∷ []) ks → at_value (K ∷ ks) ≡ Some Select
select_is (W LeftArrow ∷ ks) a = absurd (a ks refl)
select_is ks a = refl

function_is : (before : Option Kind) (f : AnyFunction) (ks : List Kind) (r : Row) → HasNoLeft before → at_function f ks ≡ Some r → row before (W (Function f) ∷ ks) ≡ Some r
function_is before f ks r o h = ap (λ b. if b then at_function f ks else None) (opens_is o) ∙ h

pub row_is : (before : Option Kind) (behind : List Kind) {items : List Kind} {r : Row} {at : ℕ} → IsPhrase before behind items r at → row before (items ++ behind) ≡ Some r
row_is before behind table.group = refl
row_is before behind (table.index s) = ap index_list (slots_is behind s)
row_is before behind (table.read {v = v} a b c) = read_is v behind a b c
row_is before behind (table.call {n = n} a) = call_is n behind a
row_is before behind (table.select a) = select_is behind a
row_is before behind (table.monadic {f = f} o e) = function_is before f (B ∷ behind) (Monadic f) o (rw (ends_is e) refl)
row_is before behind (table.monadic_axis {f = f} o e) = function_is before f (K ∷ B ∷ behind) (MonadicAxis f) o (rw (ends_is e) refl)
row_is before behind (table.reduce {f = f} {m = m} o s e) = function_is before f (W (Operator m) ∷ B ∷ behind) (Reduce f m) o (rw (scalar_is s, ends_is e) refl)
row_is before behind (table.reduce_axis {f = f} {m = m} o s e) = function_is before f (W (Operator m) ∷ K ∷ B ∷ behind) (ReduceAxis f m) o (rw (scalar_is s, ends_is e) refl)
row_is before behind (table.dyadic {f = f} e) = rw (ends_is e) refl
row_is before behind (table.dyadic_axis {f = f} e) = rw (ends_is e) refl
row_is before behind (table.inner {f = f} {g = g} s t e) = rw (scalar_is s, scalar_is t, ends_is e) refl
row_is before behind (table.outer {g = g} s e) = rw (scalar_is s, ends_is e) refl
row_is before behind (table.assign {v = v} e) = rw (ends_is e) refl
row_is before behind (table.assign_indexed {v = v} e) = rw (ends_is e) refl
row_is before behind (table.show e) = rw (ends_is e) refl

pub begins_is : (before : Option Kind) (items : List Kind) (r : Row) → Begins before items r → row before items ≡ Some r
begins_is before items r b = ap (row before) b.whole ∙ row_is before b.behind b.row

-- a row has as many items as its phrase, and its place
pub placed : (before : Option Kind) (behind : List Kind) (items : List Kind) (r : Row) (at : ℕ) → IsPhrase before behind items r at → (length items ≡ width r) × (at ≡ place r)
placed before behind items r at p = sized p
  where
    sized : {before : Option Kind} {behind : List Kind} {items : List Kind} {r : Row} {at : ℕ} → IsPhrase before behind items r at → (length items ≡ width r) × (at ≡ place r)
    sized table.group = (refl, refl)
    sized (table.index s) = (refl, refl)
    sized (table.read a b c) = (refl, refl)
    sized (table.call a) = (refl, refl)
    sized (table.select a) = (refl, refl)
    sized (table.monadic o e) = (refl, refl)
    sized (table.monadic_axis o e) = (refl, refl)
    sized (table.reduce o s e) = (refl, refl)
    sized (table.reduce_axis o s e) = (refl, refl)
    sized (table.dyadic e) = (refl, refl)
    sized (table.dyadic_axis e) = (refl, refl)
    sized (table.inner s t e) = (refl, refl)
    sized (table.outer s e) = (refl, refl)
    sized (table.assign e) = (refl, refl)
    sized (table.assign_indexed e) = (refl, refl)
    sized (table.show e) = (refl, refl)

-- ---- what is chosen is in the table

by_some : (r s : Row) (before : Option Kind) (ks : List Kind) → Some r ≡ Some s → Begins before ks r → Begins before ks s
by_some r s before ks h b = let e : r ≡ s = cc in let P : Row → Type 0 = λ q. Begins before ks q in subst P e b

by_when : (c : Bool) (r s : Row) (before : Option Kind) (ks : List Kind) → when c r ≡ Some s → (c ≡ true → Begins before ks r) → Begins before ks s
by_when true r s before ks h f = by_some r s before ks h (f refl)
by_when false r s before ks h f = cc

both : (a b : Bool) → (a && b) ≡ true → (a ≡ true) × (b ≡ true)
both true b h = (refl, h)
both false b h = cc

value_begins : (before : Option Kind) (ks : List Kind) (r : Row) → at_value ks ≡ Some r → Begins before (B ∷ ks) r
value_begins before (K ∷ W LeftArrow ∷ ks) r h = cc
value_begins before (K ∷ ks) r h = by_some Select r before _ h (record { phrase = B ∷ K ∷ []; behind = ks; at = 1; whole = refl; row = table.select (λ rest e. cc) })
value_begins before (W (Function f) ∷ B ∷ ks) r h = by_when (ends ks) (Dyadic f) r before _ h (λ e. record { phrase = B ∷ W (Function f) ∷ B ∷ []; behind = ks; at = 1; whole = refl; row = table.dyadic (ending ks e) })
value_begins before (W (Function f) ∷ K ∷ B ∷ ks) r h = by_when (ends ks) (DyadicAxis f) r before _ h (λ e. record { phrase = B ∷ W (Function f) ∷ K ∷ B ∷ []; behind = ks; at = 1; whole = refl; row = table.dyadic_axis (ending ks e) })
value_begins before (W (Function f) ∷ W Dot ∷ W (Function g) ∷ B ∷ ks) r h = by_when (is_scalar f && is_scalar g && ends ks) (Inner f g) r before _ h (λ e.
    let p = both (is_scalar f && is_scalar g) (ends ks) e in
    let q = both (is_scalar f) (is_scalar g) p.0 in
    record { phrase = B ∷ W (Function f) ∷ W Dot ∷ W (Function g) ∷ B ∷ []; behind = ks; at = 1; whole = refl; row = table.inner (scalar f q.0) (scalar g q.1) (ending ks p.1) })
value_begins before (W Jot ∷ W Dot ∷ W (Function g) ∷ B ∷ ks) r h = by_when (is_scalar g && ends ks) (Outer g) r before _ h (λ e.
    let p = both (is_scalar g) (ends ks) e in
    record { phrase = B ∷ W Jot ∷ W Dot ∷ W (Function g) ∷ B ∷ []; behind = ks; at = 1; whole = refl; row = table.outer (scalar g p.0) (ending ks p.1) })
value_begins before ks r h = cc

variable_begins : (before : Option Kind) (v : AnyVariable) (ks : List Kind) (r : Row) → at_variable v ks ≡ Some r → Begins before (W (Variable v) ∷ ks) r
variable_begins before v (W LeftArrow ∷ B ∷ ks) r h = by_when (ends ks) (Assign v) r before _ h (λ e. record { phrase = W (Variable v) ∷ W LeftArrow ∷ B ∷ []; behind = ks; at = 1; whole = refl; row = table.assign (ending ks e) })
variable_begins before v (W LeftArrow ∷ ks) r h = cc
variable_begins before v (K ∷ W LeftArrow ∷ B ∷ ks) r h = by_when (ends ks) (AssignIndexed v) r before _ h (λ e. record { phrase = W (Variable v) ∷ K ∷ W LeftArrow ∷ B ∷ []; behind = ks; at = 2; whole = refl; row = table.assign_indexed (ending ks e) })
variable_begins before v (K ∷ W LeftArrow ∷ ks) r h = cc
variable_begins before v (W OpenBracket ∷ ks) r h = cc
variable_begins before v ks r h = by_some (Read v) r before _ h (record { phrase = W (Variable v) ∷ []; behind = ks; at = 0; whole = refl; row = table.read (λ rest e. cc) (λ rest e. cc) (λ rest e. cc) })

niladic_begins : (before : Option Kind) (n : AnyVariable) (ks : List Kind) (r : Row) → at_niladic n ks ≡ Some r → Begins before (W (Niladic n) ∷ ks) r
niladic_begins before n (W LeftArrow ∷ ks) r h = cc
niladic_begins before n ks r h = by_some (Call n) r before _ h (record { phrase = W (Niladic n) ∷ []; behind = ks; at = 0; whole = refl; row = table.call (λ rest e. cc) })

function_begins : (before : Option Kind) (f : AnyFunction) (ks : List Kind) (r : Row) → HasNoLeft before → at_function f ks ≡ Some r → Begins before (W (Function f) ∷ ks) r
function_begins before f (B ∷ ks) r o h = by_when (ends ks) (Monadic f) r before _ h (λ e. record { phrase = W (Function f) ∷ B ∷ []; behind = ks; at = 0; whole = refl; row = table.monadic o (ending ks e) })
function_begins before f (K ∷ B ∷ ks) r o h = by_when (ends ks) (MonadicAxis f) r before _ h (λ e. record { phrase = W (Function f) ∷ K ∷ B ∷ []; behind = ks; at = 0; whole = refl; row = table.monadic_axis o (ending ks e) })
function_begins before f (W (Operator m) ∷ B ∷ ks) r o h = by_when (is_scalar f && ends ks) (Reduce f m) r before _ h (λ e.
    let p = both (is_scalar f) (ends ks) e in
    record { phrase = W (Function f) ∷ W (Operator m) ∷ B ∷ []; behind = ks; at = 0; whole = refl; row = table.reduce o (scalar f p.0) (ending ks p.1) })
function_begins before f (W (Operator m) ∷ K ∷ B ∷ ks) r o h = by_when (is_scalar f && ends ks) (ReduceAxis f m) r before _ h (λ e.
    let p = both (is_scalar f) (ends ks) e in
    record { phrase = W (Function f) ∷ W (Operator m) ∷ K ∷ B ∷ []; behind = ks; at = 0; whole = refl; row = table.reduce_axis o (scalar f p.0) (ending ks p.1) })
function_begins before f ks r o h = cc

branch_begins : (b : Bool) (before : Option Kind) (f : AnyFunction) (ks : List Kind) (r : Row) → (b ≡ true → HasNoLeft before) → (if b then at_function f ks else None) ≡ Some r → Begins before (W (Function f) ∷ ks) r
branch_begins true before f ks r o h = function_begins before f ks r (o refl) h
branch_begins false before f ks r o h = cc

open_begins : (before : Option Kind) (ks : List Kind) (r : Row) → at_open ks ≡ Some r → Begins before (W OpenParenthesis ∷ ks) r
open_begins before (B ∷ W CloseParenthesis ∷ ks) r h = by_some Group r before _ h (record { phrase = W OpenParenthesis ∷ B ∷ W CloseParenthesis ∷ []; behind = ks; at = 0; whole = refl; row = table.group })
open_begins before ks r h = cc

quad_begins : (before : Option Kind) (ks : List Kind) (r : Row) → at_quad ks ≡ Some r → Begins before (W Quad ∷ ks) r
quad_begins before (W LeftArrow ∷ B ∷ ks) r h = by_when (ends ks) Show r before _ h (λ e. record { phrase = W Quad ∷ W LeftArrow ∷ B ∷ []; behind = ks; at = 1; whole = refl; row = table.show (ending ks e) })
quad_begins before (W LeftArrow ∷ ks) r h = cc
quad_begins before ks r h = cc

index_begins : (before : Option Kind) (o : Option ℕ) (ks : List Kind) (r : Row) → slots_width ks ≡ o → index_list o ≡ Some r → Begins before (W OpenBracket ∷ ks) r
index_begins before None ks r e h = cc
index_begins before (Some n) ks r e h =
    let s = has_slots ks n e in
    let q : Index (suc (length s.slots)) ≡ Index (suc n) = ap (λ m. Index (suc m)) (sym s.count) in
    by_some (Index (suc n)) r before _ h (by_some _ _ before _ (ap Some q) (record { phrase = W OpenBracket ∷ s.slots; behind = s.rest; at = 0; whole = ap (λ js. W OpenBracket ∷ js) s.whole; row = table.index s.are }))

pub begins : (before : Option Kind) (ks : List Kind) (r : Row) → row before ks ≡ Some r → Begins before ks r
begins before [] r h = cc
begins before (B ∷ ks) r h = value_begins before ks r h
begins before (K ∷ ks) r h = cc
begins before (W (Variable v) ∷ ks) r h = variable_begins before v ks r h
begins before (W (Niladic n) ∷ ks) r h = niladic_begins before n ks r h
begins before (W (Function f) ∷ ks) r h = branch_begins (opens before) before f ks r (has_no_left before) h
begins before (W OpenParenthesis ∷ ks) r h = open_begins before ks r h
begins before (W OpenBracket ∷ ks) r h = index_begins before (slots_width ks) ks r refl h
begins before (W Quad ∷ ks) r h = quad_begins before ks r h
begins before (W w ∷ ks) r h = cc

pub one : (before : Option Kind) (items : List Kind) (r s : Row) → Begins before items r → Begins before items s → r ≡ s
one before items r s b d = let e = begins_is before items r b in let f = begins_is before items s d in cc

-- ---- the one that begins furthest right

none_after : (before : Option Kind) (ks : List Kind) (m : ℕ) (s : Row) → phrase before ks ≡ None → row (last_kind before (take m ks)) (drop m ks) ≡ Some s → ⊥
none_after before [] zero s h g = cc
none_after before [] (suc m) s h g = cc
none_after before (k ∷ ks) zero s h g = let e = none_here (phrase (Some k) ks) (row before (k ∷ ks)) h in cc
none_after before (k ∷ ks) (suc m) s h g = none_after (Some k) ks m s (none_right (phrase (Some k) ks) (row before (k ∷ ks)) h) g

later_case : (before : Option Kind) (k : Kind) (ks : List Kind) (n : ℕ) (r : Row) (m : ℕ) (o : Option (ℕ × Row)) → phrase (Some k) ks ≡ o → ((i : ℕ) (t : Row) → phrase (Some k) ks ≡ Some (i, t) → i < m → ⊥) → (phrase (Some k) ks ≡ None → ⊥) → or_here o (row before (k ∷ ks)) ≡ Some (n, r) → n < suc m → ⊥
later_case before k ks n r m None e f g h lt = g e
later_case before k ks n r m (Some p) e f g h lt = let q = pair_is (suc p.0, p.1) (n, r) h in f p.0 p.1 e (omega arith)

none_later : (before : Option Kind) (ks : List Kind) (n : ℕ) (r : Row) (m : ℕ) (s : Row) → phrase before ks ≡ Some (n, r) → n < m → row (last_kind before (take m ks)) (drop m ks) ≡ Some s → ⊥
none_later before [] n r m s h lt g = cc
none_later before (k ∷ ks) n r zero s h lt g = absurd (omega arith)
none_later before (k ∷ ks) n r (suc m) s h lt g =
    later_case before k ks n r m (phrase (Some k) ks) refl (λ i t e less. none_later (Some k) ks i t m s e less g) (λ e. none_after (Some k) ks m s e g) h lt

pub furthest : (before : Option Kind) (items : List Kind) (n : ℕ) (r : Row) → phrase before items ≡ Some (n, r) → IsFurthest before items n r
furthest before items n r h =
    record { here = begins _ _ r (found_at before items n r h).here; last = λ m s lt b. none_later before items n r m s h lt (begins_is _ _ s b) }

pub none : (before : Option Kind) (items : List Kind) → phrase before items ≡ None → (n : ℕ) (r : Row) → ¬ BeginsAfter before items n r
none before items h n r b = none_after before items n r h (begins_is _ _ r b)

pub furthest_is : (before : Option Kind) (items : List Kind) (n : ℕ) (r : Row) → IsFurthest before items n r → phrase before items ≡ Some (n, r)
furthest_is before items n r f = by_case (phrase before items) refl
  where
    by_case : (o : Option (ℕ × Row)) → phrase before items ≡ o → phrase before items ≡ Some (n, r)
    by_case None e = absurd (none before items e n r f.here)
    by_case (Some p) e =
        let g = furthest before items p.0 p.1 e in
        let below : p.0 < n → ⊥ = λ lt. g.last n r lt f.here in
        let above : n < p.0 → ⊥ = λ lt. f.last p.0 p.1 lt g.here in
        let same : p.0 ≡ n = omega arith in
        e ∙ ap Some (ap (λ m. (m, p.1)) same ∙ ap (λ s. (n, s)) (one _ _ p.1 r (subst (λ m. BeginsAfter before items m p.1) same g.here) f.here))

pub none_is : (before : Option Kind) (items : List Kind) → ((n : ℕ) (r : Row) → ¬ BeginsAfter before items n r) → phrase before items ≡ None
none_is before items f = by_case (phrase before items) refl
  where
    by_case : (o : Option (ℕ × Row)) → phrase before items ≡ o → phrase before items ≡ None
    by_case None e = e
    by_case (Some p) e = absurd (f p.0 p.1 (furthest before items p.0 p.1 e).here)
