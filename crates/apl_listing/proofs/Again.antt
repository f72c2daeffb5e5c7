-- What a line says is read from it.
use Rattle.std.proofs.Common.{◌≡◌, ℕ, zero, suc, ◌+◌, ◌-◌, ◌*◌, ◌/◌, ◌%◌, ◌<◌, ◌≤◌, Bool, true, false, cond, List, [], ◌∷◌, ◌++◌, length, map, drop, codes, bytes_eq, Option, Some, None, option_map, refl, sym, ap, ◌∙◌, subst, arith, ⊎_elim, length-append}
use Rattle.std.specs.Prelude.{◌==◌, ◌&&◌, not, decimal}
use Rattle.std.specs.List.{list_all, remove, insert}
use Rattle.std.proofs.lemmas.Bool.{cases_lt, le-leb}
use Rattle.std.proofs.lemmas.Fmt.{decimal_digit, decimal_step}
use Rattle.apl_charset.specs.Set.{is_member}
use Rattle.apl_charset.proofs.Members.{and_left, and_right}
use Rattle.apl_symbols.specs.Glyphs.{primitive_glyph, symbol_of}
use Rattle.apl_symbols.specs.SystemNames.{letters_of, system_named}
use Rattle.apl_symbols.proofs.Glyphs.{symbol_of_glyph}
use Rattle.apl_symbols.specs.declared.primitive.Operator.{Operator}
use Rattle.apl_symbols.specs.declared.primitive.Operator.TheVariants as operator
use Rattle.apl_symbols.specs.declared.symbol.Symbol.TheVariants as symbol
use Rattle.apl_symbols.specs.declared.system.SystemName.{SystemName}
use Rattle.apl_symbols.specs.declared.system.SystemName.TheVariants.{Origin, LineCounter, NameClass, Stop, Trace}
use Rattle.apl_code.specs.Instr.{Operand, Value, Slots, operands, ending_operands, IsValue, IsOperand, AreOperands, IsSlot, AreSlots, Takes, IsFunction, IsVariable, IsRow, IsAction, IsInstr}
use Rattle.apl_code.specs.declared.instr.Source.{Source}
use Rattle.apl_code.specs.declared.instr.Source.TheVariants.{Constant, Stack}
use Rattle.apl_code.specs.declared.instr.Action.{Action}
use Rattle.apl_code.specs.declared.instr.Action.TheVariants.{Box, Phrase, End}
use Rattle.apl_code.specs.declared.instr.Instr.{Instr}
use Rattle.apl_code.specs.declared.row.Ending.TheVariants.{Branch, Escape, Shown, Hidden, Nothing, Fail}
use Rattle.apl_code.specs.declared.row.Function.{Function}
use Rattle.apl_code.specs.declared.row.Function.TheVariants as function
use Rattle.apl_code.specs.declared.row.Variable.{Variable}
use Rattle.apl_code.specs.declared.row.Variable.TheVariants as variable
use Rattle.apl_code.specs.declared.row.Row.{Row}
use Rattle.apl_code.specs.declared.row.Row.TheVariants.{Group, Index, Read, Call, Select, Monadic, MonadicAxis, Reduce, ReduceAxis, Dyadic, DyadicAxis, Inner, Outer, Assign, AssignIndexed, Show}
use Rattle.apl_listing.specs.Listing.{fields, function_word, variable_word, operator_glyph, operator_name, row_words, action_words, list_place, action_list, without, operand, operand_words}
use Rattle.apl_listing.specs.inside.Reading.{until, past, words, ◌>>=◌, number_of, source_of, name_of, primitive_in, function_of, variable_of, operator_of, along, function_named, row_named, action_at, behind, refilled}
use Rattle.std.proofs.Math.Nat.{min-eq_left}
use Rattle.apl_listing.proofs.Fields.{fields_then}
use Rattle.apl_listing.proofs.Lists.{drop_prefix}
use Rattle.apl_listing.proofs.Words.{words_step}
use Rattle.apl_listing.proofs.Signs.{is_sign, AreSigns, sign_blank, sign_at, glyph_sign, glyph_letter, glyph_quad, name_signs, decimal_signs, system_signs}

-- each is a word
abbrev pub AreWords : List (List ℕ) → Type 0
AreWords [] = Unit {0}
AreWords (w ∷ ws) = AreSigns w × AreWords ws

-- a word is read up to the blank behind it
pub word_field : (w rest : List ℕ) → AreSigns w → (until 32 (w ++ 32 ∷ rest) ≡ w) × (past 32 (w ++ 32 ∷ rest) ≡ rest)
word_field [] rest h = (refl, refl)
word_field (b ∷ bs) rest h =
    let i = word_field bs rest (and_right (is_sign b) _ h) in
    let z : (b == 32) ≡ false = sign_blank b (and_left _ _ h) in
    (ap (λ t. cond t [] (b ∷ until 32 (bs ++ 32 ∷ rest))) z ∙ ap (λ cs. b ∷ cs) i.0, ap (λ t. cond t (bs ++ 32 ∷ rest) (past 32 (bs ++ 32 ∷ rest))) z ∙ i.1)

abbrev no_at : ℕ → Bool
no_at c = not (c == 64)

signs_no_at : (w : List ℕ) → AreSigns w → (rest : List ℕ) → list_all no_at rest ≡ true → list_all no_at (w ++ 32 ∷ rest) ≡ true
signs_no_at [] h rest r = r
signs_no_at (c ∷ cs) h rest r =
    ap (λ (t : Bool). not t && list_all no_at (cs ++ 32 ∷ rest)) (sign_at c (and_left _ _ h)) ∙ signs_no_at cs (and_right (is_sign c) _ h) rest r

fields_no_at : (ws : List (List ℕ)) → AreWords ws → list_all no_at (fields ws []) ≡ true
fields_no_at [] h = refl
fields_no_at (w ∷ ws) h = signs_no_at w h.0 (fields ws []) (fields_no_at ws h.1)

not_true : (b : Bool) → not b ≡ true → b ≡ false
not_true true h = absurd cc
not_true false h = refl

place_field : (w rest : List ℕ) → list_all no_at w ≡ true → (until 64 (w ++ 64 ∷ rest) ≡ w) × (past 64 (w ++ 64 ∷ rest) ≡ rest)
place_field [] rest h = (refl, refl)
place_field (b ∷ bs) rest h =
    let i = place_field bs rest (and_right (no_at b) _ h) in
    let z : (b == 64) ≡ false = not_true _ (and_left _ _ h) in
    (ap (λ t. cond t [] (b ∷ until 64 (bs ++ 64 ∷ rest))) z ∙ ap (λ cs. b ∷ cs) i.0, ap (λ t. cond t (bs ++ 64 ∷ rest) (past 64 (bs ++ 64 ∷ rest))) z ∙ i.1)

some_length : (w rest : List ℕ) → 0 < length (w ++ 32 ∷ rest)
some_length [] rest = omega arith
some_length (c ∷ cs) rest = omega arith

words_again : (ws : List (List ℕ)) → AreWords ws → words (fields ws []) ≡ ws
words_again [] h = refl
words_again (w ∷ ws) h =
    let f = word_field w (fields ws []) h.0 in
    words_step (w ++ 32 ∷ fields ws []) (some_length w (fields ws []))
    ∙ ap (λ u. u ∷ words (past 32 (w ++ 32 ∷ fields ws []))) f.0
    ∙ ap (λ t. w ∷ words t) f.1
    ∙ ap (λ us. w ∷ us) (words_again ws h.1)

-- a number of at most three digits
two_digits : (n : ℕ) → 10 ≤ n → n < 100 → decimal n ≡ (48 + n / 10) ∷ (48 + n % 10) ∷ []
two_digits n a b = decimal_step n a (omega arith) ∙ ap (λ ds. ds ++ (48 + n % 10) ∷ []) (decimal_digit (n / 10) (omega arith))

three_digits : (n : ℕ) → 100 ≤ n → n < 1000 → decimal n ≡ (48 + n / 10 / 10) ∷ (48 + n / 10 % 10) ∷ (48 + n % 10) ∷ []
three_digits n a b = decimal_step n (omega arith) (omega arith) ∙ ap (λ ds. ds ++ (48 + n % 10) ∷ []) (two_digits (n / 10) (omega arith) (omega arith))

short_one : (n : ℕ) → n < 10 → number_of (decimal n) ≡ n
short_one n h = rw (decimal_digit n h) (let e : 48 + n - 48 ≡ n = omega arith in e)

short_two : (n : ℕ) → 10 ≤ n → n < 100 → number_of (decimal n) ≡ n
short_two n a b = rw (two_digits n a b) (let e : 10 * (48 + n / 10 - 48) + (48 + n % 10 - 48) ≡ n = omega arith in e)

short_three : (n : ℕ) → 100 ≤ n → n < 1000 → number_of (decimal n) ≡ n
short_three n a b = rw (three_digits n a b) (let e : 100 * (48 + n / 10 / 10 - 48) + 10 * (48 + n / 10 % 10 - 48) + (48 + n % 10 - 48) ≡ n = omega arith in e)

pub short : (n : ℕ) → n < 1000 → number_of (decimal n) ≡ n
short n h = ⊎_elim (λ a. short_one n a) (λ a. ⊎_elim (λ b. short_two n a b) (λ b. short_three n b h) (cases_lt n 100)) (cases_lt n 10)

-- functions and variables
system_again : (s : SystemName) → system_named (letters_of s) ≡ Some s
unfolding system_named
system_again Origin = refl
system_again LineCounter = refl
system_again NameClass = refl
system_again Stop = refl
system_again Trace = refl

name_again : (n : List ℕ) → length n ≤ 32 → name_of n ≡ Some n
name_again n h = ap (λ (b : Bool). cond b (Some n) None) (le-leb (length n) 32 h)

function_again : (f : Function) → IsFunction f → function_of (function_word f) ≡ Some f
function_again (function.Primitive p) h =
    ap (λ (b : Bool). cond b (name_of (primitive_glyph p ∷ []) >>= λ n. Some (function.Name n)) (cond (primitive_glyph p == 0x2395) (system_named [] >>= λ s. Some (function.System s)) (primitive_in (symbol_of (primitive_glyph p))))) (glyph_letter p)
    ∙ ap (λ (b : Bool). cond b (system_named [] >>= λ s. Some (function.System s)) (primitive_in (symbol_of (primitive_glyph p)))) (glyph_quad p)
    ∙ ap primitive_in (symbol_of_glyph (symbol.Primitive p))
function_again (function.Name []) h = let t : false ≡ true = h.letter in absurd cc
function_again (function.Name (c ∷ cs)) h =
    ap (λ (b : Bool). cond b (name_of (c ∷ cs) >>= λ n. Some (function.Name n)) (cond (c == 0x2395) (system_named cs >>= λ s. Some (function.System s)) (primitive_in (symbol_of c)))) h.letter
    ∙ ap (λ o. o >>= λ n. Some (function.Name n)) (name_again (c ∷ cs) h.short)
function_again (function.System s) h = ap (λ o. o >>= λ n. Some (function.System n)) (system_again s)

variable_again : (v : Variable) → IsVariable v → variable_of (variable_word v) ≡ Some v
variable_again (variable.Name []) h = let t : false ≡ true = h.letter in absurd cc
variable_again (variable.Name (c ∷ cs)) h =
    ap (λ (b : Bool). cond b (name_of (c ∷ cs) >>= λ n. Some (variable.Name n)) (system_named cs >>= λ s. Some (variable.System s))) h.letter
    ∙ ap (λ o. o >>= λ n. Some (variable.Name n)) (name_again (c ∷ cs) h.short)
variable_again (variable.System s) h = ap (λ o. o >>= λ n. Some (variable.System n)) (system_again s)

function_signs : (f : Function) → IsFunction f → AreSigns (function_word f)
function_signs (function.Primitive p) h = ap (λ (b : Bool). b && true) (glyph_sign p)
function_signs (function.Name n) h = name_signs n h.goes_on
function_signs (function.System s) h = system_signs s

variable_signs : (v : Variable) → IsVariable v → AreSigns (variable_word v)
variable_signs (variable.Name n) h = name_signs n h.goes_on
variable_signs (variable.System s) h = system_signs s

-- operands
source_again : (s : Option Source) → IsSlot s → source_of (operand s) ≡ s
source_again None h = refl
source_again (Some Stack) h = refl
source_again (Some (Constant k)) h = ap (λ n. Some (Constant n)) (short k (omega arith))

sources_again : (ss : List (Option Source)) → AreSlots ss → map source_of (map operand ss) ≡ ss
sources_again [] h = refl
sources_again (s ∷ ss) h = ap (λ t. t ∷ map source_of (map operand ss)) (source_again s h.0) ∙ ap (λ ts. s ∷ ts) (sources_again ss h.1)

operand_slot : (o : Operand) (s : Option Source) → IsOperand o s → IsSlot s
operand_slot o None h = absurd h
operand_slot Value (Some s) h = h
operand_slot Slots (Some s) h = subst IsValue (sym h) tt

operand_slots : (os : List Operand) (ss : List (Option Source)) → AreOperands os ss → AreSlots ss
operand_slots [] [] h = tt
operand_slots [] (s ∷ ss) h = absurd h
operand_slots (o ∷ os) [] h = absurd h
operand_slots (o ∷ os) (s ∷ ss) h = (operand_slot o s h.0, operand_slots os ss h.1)

remove_slots : (ss : List (Option Source)) (p : ℕ) → AreSlots ss → AreSlots (remove ss p)
remove_slots [] zero h = tt
remove_slots [] (suc p) h = tt
remove_slots (s ∷ ss) zero h = h.1
remove_slots (s ∷ ss) (suc p) h = (h.0, remove_slots ss p h.1)

without_slots : (o : Option ℕ) (ss : List (Option Source)) → AreSlots ss → AreSlots (without o ss)
without_slots None ss h = h
without_slots (Some p) ss h = remove_slots ss p h

-- operands that a row or the end of a line takes
row_slots : (r : Row) (ss : List (Option Source)) → Takes (Phrase r) ss → AreSlots ss
row_slots Group ss h = operand_slots (operands Group) ss h
row_slots (Index n) ss h = absurd h
row_slots (Read v) ss h = operand_slots (operands (Read v)) ss h
row_slots (Call v) ss h = operand_slots (operands (Call v)) ss h
row_slots Select ss h = operand_slots (operands Select) ss h
row_slots (Monadic f) ss h = operand_slots (operands (Monadic f)) ss h
row_slots (MonadicAxis f) ss h = operand_slots (operands (MonadicAxis f)) ss h
row_slots (Reduce f m) ss h = operand_slots (operands (Reduce f m)) ss h
row_slots (ReduceAxis f m) ss h = operand_slots (operands (ReduceAxis f m)) ss h
row_slots (Dyadic f) ss h = operand_slots (operands (Dyadic f)) ss h
row_slots (DyadicAxis f) ss h = operand_slots (operands (DyadicAxis f)) ss h
row_slots (Inner f g) ss h = operand_slots (operands (Inner f g)) ss h
row_slots (Outer g) ss h = operand_slots (operands (Outer g)) ss h
row_slots (Assign v) ss h = operand_slots (operands (Assign v)) ss h
row_slots (AssignIndexed v) ss h = operand_slots (operands (AssignIndexed v)) ss h
row_slots Show ss h = operand_slots (operands Show) ss h

action_slots : (a : Action) (ss : List (Option Source)) → Takes a ss → AreSlots ss
action_slots Box ss h = h.1
action_slots (Phrase r) ss h = row_slots r ss h
action_slots (End e) ss h = operand_slots (ending_operands e) ss h

operand_signs : (s : Option Source) → IsSlot s → AreSigns (operand s)
unfolding is_member
operand_signs None h = refl
operand_signs (Some Stack) h = refl
operand_signs (Some (Constant k)) h = decimal_signs k (omega arith)

operands_signs : (ss : List (Option Source)) → AreSlots ss → AreWords (map operand ss)
operands_signs [] h = tt
operands_signs (s ∷ ss) h = (operand_signs s h.0, operands_signs ss h.1)

operator_signs : (m : Operator) → AreSigns (operator_name m) × AreSigns (operator_glyph m ∷ [])
unfolding is_member
operator_signs operator.Slash = (refl, refl)
operator_signs operator.SlashBar = (refl, refl)
operator_signs operator.Slope = (refl, refl)
operator_signs operator.SlopeBar = (refl, refl)

row_signs : (r : Row) → IsRow r → AreWords (row_words r)
unfolding is_member
row_signs Group h = (refl, tt)
row_signs (Index n) h = (refl, tt)
row_signs (Read v) h = (refl, (variable_signs v h, tt))
row_signs (Call v) h = (refl, (variable_signs v h, tt))
row_signs Select h = (refl, tt)
row_signs (Monadic f) h = (refl, (function_signs f h, tt))
row_signs (MonadicAxis f) h = (refl, (function_signs f h, (refl, tt)))
row_signs (Reduce f m) h = let o = operator_signs m in (o.0, (function_signs f h, (o.1, tt)))
row_signs (ReduceAxis f m) h = let o = operator_signs m in (o.0, (function_signs f h, (o.1, (refl, tt))))
row_signs (Dyadic f) h = (refl, (function_signs f h, tt))
row_signs (DyadicAxis f) h = (refl, (function_signs f h, (refl, tt)))
row_signs (Inner f g) h = (refl, (function_signs f h.0, (function_signs g h.1, tt)))
row_signs (Outer g) h = (refl, (function_signs g h, tt))
row_signs (Assign v) h = (refl, (variable_signs v h, tt))
row_signs (AssignIndexed v) h = (refl, (variable_signs v h, tt))
row_signs Show h = (refl, tt)

action_signs : (a : Action) → IsAction a → AreWords (action_words a)
unfolding is_member
action_signs Box h = (refl, tt)
action_signs (Phrase r) h = row_signs r h
action_signs (End Branch) h = (refl, tt)
action_signs (End Escape) h = (refl, tt)
action_signs (End Shown) h = (refl, (refl, tt))
action_signs (End Hidden) h = (refl, (refl, tt))
action_signs (End Nothing) h = (refl, (refl, tt))
action_signs (End Fail) h = (refl, tt)

words_append : (ws vs : List (List ℕ)) → AreWords ws → AreWords vs → AreWords (ws ++ vs)
words_append [] vs h k = k
words_append (w ∷ ws) vs h k = (h.0, words_append ws vs h.1 k)

-- the index list that isn't written
refill_first : (os : List Operand) (ss : List (Option Source)) → AreOperands (Slots ∷ os) ss → refilled (Some 0) (remove ss 0) ≡ Some ss
refill_first os [] h = absurd h
refill_first os (None ∷ ss) h = absurd h.0
refill_first os (Some s ∷ ss) h = ap (λ (b : Bool). cond b (Some (insert ss 0 (Some Stack))) None) (le-leb 0 (length ss) (omega arith)) ∙ ap (λ (x : Source). Some (Some x ∷ ss)) (sym h.0)

refill_second : (os : List Operand) (ss : List (Option Source)) → AreOperands (Value ∷ Slots ∷ os) ss → refilled (Some 1) (remove ss 1) ≡ Some ss
refill_second os [] h = absurd h
refill_second os (a ∷ []) h = absurd h.1
refill_second os (a ∷ None ∷ ss) h = absurd h.1.0
refill_second os (a ∷ Some s ∷ ss) h = ap (λ (b : Bool). cond b (Some (insert (a ∷ ss) 1 (Some Stack))) None) (le-leb 1 (length (a ∷ ss)) (omega arith)) ∙ ap (λ (x : Source). Some (a ∷ Some x ∷ ss)) (sym h.1.0)

row_refills : (r : Row) (ss : List (Option Source)) → Takes (Phrase r) ss → refilled (list_place r) (without (list_place r) ss) ≡ Some ss
row_refills Group ss h = refl
row_refills (Index n) ss h = absurd h
row_refills (Read v) ss h = refl
row_refills (Call v) ss h = refl
row_refills Select ss h = refill_second [] ss h
row_refills (Monadic f) ss h = refl
row_refills (MonadicAxis f) ss h = refill_first (Value ∷ []) ss h
row_refills (Reduce f m) ss h = refl
row_refills (ReduceAxis f m) ss h = refill_first (Value ∷ []) ss h
row_refills (Dyadic f) ss h = refl
row_refills (DyadicAxis f) ss h = refill_second (Value ∷ []) ss h
row_refills (Inner f g) ss h = refl
row_refills (Outer g) ss h = refl
row_refills (Assign v) ss h = refl
row_refills (AssignIndexed v) ss h = refill_first (Value ∷ []) ss h
row_refills Show ss h = refl

action_refills : (a : Action) (ss : List (Option Source)) → Takes a ss → refilled (action_list a) (without (action_list a) ss) ≡ Some ss
action_refills Box ss h = refl
action_refills (Phrase r) ss h = row_refills r ss h
action_refills (End e) ss h = refl

-- operands that begin with a value begin with no axis
no_axis : (os : List Operand) (ss : List (Option Source)) → AreOperands (Value ∷ os) ss → bytes_eq (until 32 (fields (map operand ss) [])) (codes "K") ≡ false
no_axis os [] h = absurd h
no_axis os (None ∷ ss) h = absurd h.0
no_axis os (Some Stack ∷ ss) h = refl
no_axis os (Some (Constant k) ∷ ss) h = refl

plain_row : (plain axis : Row) (os : List Operand) (ss : List (Option Source)) (text : List ℕ) → AreOperands (Value ∷ os) ss → text ≡ fields (map operand ss) [] → Some (along (until 32 text) plain axis) ≡ Some plain
plain_row plain axis os ss text t e = ap (λ u. Some (along (until 32 u) plain axis)) e ∙ ap (λ (b : Bool). Some (cond b axis plain)) (no_axis os ss t)

-- what is done: the row of a name, and of the three words behind it
abbrev row_at : List ℕ → List ℕ → Option Row
row_at name rest = row_named name (until 32 rest) (until 32 (past 32 rest)) (until 32 (past 32 (past 32 rest)))

row_back : (name word rest : List ℕ) → AreSigns word → row_at name (word ++ 32 ∷ rest) ≡ row_named name word (until 32 rest) (until 32 (past 32 rest))
row_back name word rest h =
    let e = word_field word rest h in
    let t = word ++ 32 ∷ rest in
    ap (λ u. row_named name u (until 32 (past 32 t)) (until 32 (past 32 (past 32 t)))) e.0 ∙ ap (λ u. row_named name word (until 32 u) (until 32 (past 32 u))) e.1

variable_back : (name : List ℕ) (row : Variable → Row) (v : Variable) (rest : List ℕ) → IsVariable v → ((w s t : List ℕ) → row_named name w s t ≡ option_map row (variable_of w)) → row_at name (variable_word v ++ 32 ∷ rest) ≡ Some (row v)
variable_back name row v rest h is = row_back name (variable_word v) rest (variable_signs v h) ∙ is (variable_word v) (until 32 rest) (until 32 (past 32 rest)) ∙ ap (option_map row) (variable_again v h)

function_back : (name : List ℕ) (f : Function) (rest : List ℕ) → IsFunction f → ((w s t : List ℕ) → row_named name w s t ≡ (function_of w >>= λ g. function_named name g s t)) → row_at name (function_word f ++ 32 ∷ rest) ≡ function_named name f (until 32 rest) (until 32 (past 32 rest))
function_back name f rest h is =
    row_back name (function_word f) rest (function_signs f h) ∙ is (function_word f) (until 32 rest) (until 32 (past 32 rest))
    ∙ ap (λ o. o >>= λ g. function_named name g (until 32 rest) (until 32 (past 32 rest))) (function_again f h)

operator_again : (m : Operator) → operator_of (operator_glyph m ∷ []) ≡ m
operator_again operator.Slash = refl
operator_again operator.SlashBar = refl
operator_again operator.Slope = refl
operator_again operator.SlopeBar = refl

reduce_back : (f : Function) (m : Operator) (rest : List ℕ) → IsFunction f → row_at (codes "RED") (function_word f ++ 32 ∷ operator_glyph m ∷ 32 ∷ rest) ≡ Some (along (until 32 rest) (Reduce f m) (ReduceAxis f m))
reduce_back f m rest h =
    let t = operator_glyph m ∷ 32 ∷ rest in
    let e = word_field (operator_glyph m ∷ []) rest (operator_signs m).1 in
    function_back (codes "RED") f t h (λ w s u. refl)
    ∙ ap (λ w. Some (along (until 32 (past 32 t)) (Reduce f (operator_of w)) (ReduceAxis f (operator_of w)))) e.0
    ∙ ap (λ n. Some (along (until 32 (past 32 t)) (Reduce f n) (ReduceAxis f n))) (operator_again m)
    ∙ ap (λ u. Some (along (until 32 u) (Reduce f m) (ReduceAxis f m))) e.1

-- RED and SCN are read alike
named_reduce : (m : Operator) (rest : List ℕ) → action_at (operator_name m ++ 32 ∷ rest) ≡ option_map Phrase (row_at (codes "RED") rest)
named_reduce operator.Slash rest = refl
named_reduce operator.SlashBar rest = refl
named_reduce operator.Slope rest = refl
named_reduce operator.SlopeBar rest = refl

abbrev phrase : Option Row → Option Action
phrase o = option_map Phrase o

row_again : (r : Row) (ss : List (Option Source)) (text : List ℕ) → IsRow r → Takes (Phrase r) ss → text ≡ fields (map operand (without (list_place r) ss)) [] → action_at (fields (row_words r) text) ≡ Some (Phrase r)
row_again Group ss text w t e = refl
row_again (Index n) ss text w t e = absurd t
row_again (Read v) ss text w t e = ap phrase (variable_back (codes "VAR") Read v text w (λ w s t. refl))
row_again (Call v) ss text w t e = ap phrase (variable_back (codes "NIL") Call v text w (λ w s t. refl))
row_again Select ss text w t e = refl
row_again (Monadic f) ss text w t e = ap phrase (function_back (codes "MON") f text w (λ w s t. refl) ∙ plain_row (Monadic f) (MonadicAxis f) [] ss text t e)
row_again (MonadicAxis f) ss text w t e = ap phrase (function_back (codes "MON") f (75 ∷ 32 ∷ text) w (λ w s t. refl))
row_again (Reduce f m) ss text w t e =
    named_reduce m (function_word f ++ 32 ∷ operator_glyph m ∷ 32 ∷ text) ∙ ap phrase (reduce_back f m text w ∙ plain_row (Reduce f m) (ReduceAxis f m) [] ss text t e)
row_again (ReduceAxis f m) ss text w t e = named_reduce m (function_word f ++ 32 ∷ operator_glyph m ∷ 32 ∷ 75 ∷ 32 ∷ text) ∙ ap phrase (reduce_back f m (75 ∷ 32 ∷ text) w)
row_again (Dyadic f) ss text w t e = ap phrase (function_back (codes "DYA") f text w (λ w s t. refl) ∙ plain_row (Dyadic f) (DyadicAxis f) (Value ∷ []) ss text t e)
row_again (DyadicAxis f) ss text w t e = ap phrase (function_back (codes "DYA") f (75 ∷ 32 ∷ text) w (λ w s t. refl))
row_again (Inner f g) ss text w t e =
    ap phrase (function_back (codes "INN") f (function_word g ++ 32 ∷ text) w.0 (λ w s t. refl)
    ∙ ap (λ u. function_of u >>= λ g. Some (Inner f g)) (word_field (function_word g) text (function_signs g w.1)).0
    ∙ ap (λ o. o >>= λ g. Some (Inner f g)) (function_again g w.1))
row_again (Outer g) ss text w t e = ap phrase (function_back (codes "OUT") g text w (λ w s t. refl))
row_again (Assign v) ss text w t e = ap phrase (variable_back (codes "SET") Assign v text w (λ w s t. refl))
row_again (AssignIndexed v) ss text w t e = ap phrase (variable_back (codes "SETX") AssignIndexed v text w (λ w s t. refl))
row_again Show ss text w t e = refl

action_again : (a : Action) (ss : List (Option Source)) (text : List ℕ) → IsAction a → Takes a ss → text ≡ fields (operand_words a ss) [] → action_at (fields (action_words a) text) ≡ Some a
action_again Box ss text w t e = refl
action_again (Phrase r) ss text w t e = row_again r ss text w t e
action_again (End Branch) ss text w t e = refl
action_again (End Escape) ss text w t e = refl
action_again (End Shown) ss text w t e = refl
action_again (End Hidden) ss text w t e = refl
action_again (End Nothing) ss text w t e = refl
action_again (End Fail) ss text w t e = refl

-- what follows the words of an action is found behind them
pub behind_words : (a : Action) (rest : List ℕ) → behind a (fields (action_words a) rest) ≡ rest
behind_words a rest =
    let prefix = fields (action_words a) [] in
    let e : fields (action_words a) rest ≡ prefix ++ rest = fields_then (action_words a) rest in
    let le : length prefix ≤ length (fields (action_words a) rest) = omega (arith, ap length e, length-append prefix rest) in
    ap (λ (n : ℕ). drop n (fields (action_words a) rest)) (min-eq_left le) ∙ ap (drop (length prefix)) e ∙ drop_prefix (length prefix) prefix rest refl

-- the words of an instruction
abbrev pub all_words : Instr → List (List ℕ)
all_words i = action_words i.action ++ operand_words i.action i.arguments

pub instr_signs : (i : Instr) → IsInstr i → AreWords (all_words i)
instr_signs i h = words_append (action_words i.action) (operand_words i.action i.arguments) (action_signs i.action h.words) (operands_signs (without (action_list i.action) i.arguments) (without_slots (action_list i.action) i.arguments (action_slots i.action i.arguments h.takes)))

pub place_again : (ws : List (List ℕ)) (ds : List ℕ) → AreWords ws → (until 64 (fields ws (64 ∷ ds)) ≡ fields ws []) × (past 64 (fields ws (64 ∷ ds)) ≡ ds)
place_again ws ds h =
    let e = fields_then ws (64 ∷ ds) in
    let p = place_field (fields ws []) ds (fields_no_at ws h) in
    (ap (until 64) e ∙ p.0, ap (past 64) e ∙ p.1)

-- the action is read back, and its operands
pub action_back : (i : Instr) → IsInstr i → action_at (fields (action_words i.action) (fields (operand_words i.action i.arguments) [])) ≡ Some i.action
action_back i h = action_again i.action i.arguments (fields (operand_words i.action i.arguments) []) h.words h.takes refl

pub operands_back : (i : Instr) → IsInstr i → refilled (action_list i.action) (map source_of (words (fields (operand_words i.action i.arguments) []))) ≡ Some i.arguments
operands_back i h =
    let s : AreSlots (without (action_list i.action) i.arguments) = without_slots (action_list i.action) i.arguments (action_slots i.action i.arguments h.takes) in
    ap (λ ws. refilled (action_list i.action) (map source_of ws)) (words_again (operand_words i.action i.arguments) (operands_signs (without (action_list i.action) i.arguments) s))
    ∙ ap (refilled (action_list i.action)) (sources_again (without (action_list i.action) i.arguments) s)
    ∙ action_refills i.action i.arguments h.takes
