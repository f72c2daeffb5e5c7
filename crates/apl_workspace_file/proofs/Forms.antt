-- The tree of each kind of field is what its reader takes.
use Rattle.std.proofs.Common.{◌≡◌, ℕ, ◌<◌, ◌^◌, Bool, true, false, cond, ltb, eqb, bytes_eq, Option, Some, None, List, [], ◌∷◌, Ok, Err, codes, refl, ap, subst, ◌∙◌, arith}
use Rattle.std.specs.Prelude.{◌&&◌}
use Rattle.std.specs.List.{AllByRecursion}
use Rattle.std.proofs.lemmas.Bool.{eqb-true, ltb-true, lt-ltb}
use Rattle.serde_json.specs.Data.{Data, null, string, object, member, no_members}
use Rattle.apl_workspace_file.specs.Trees.{whole_tree, number_tree, list_tree, option_tree, elements_tree, array_tree, operand_tree, rest_tree, local_tree, statement_tree, execute_tree, call_tree, context_tree, function_tree, variable_tree, version_tree, tree_of}
use Rattle.apl_workspace_file.specs.Fitting.{IsWhole, IsNumber, FitsOption, FitsElements, FitsArray, FitsOperand, FitsRest, FitsLocal, FitsStatement, FitsCall, FitsContext, FitsFunction, FitsVariable, fits_version, Fits}
use Rattle.apl_workspace_file.specs.Reading.{◌>>=◌, object_of, ended, with_field, has, kind_of, whole_of, number_of, text_of, list_of, option_of, numbers_of, characters_of, array_of, slots_of, operand_of, rest_of, local_of, statement_of, execute_of, call_of, context_named, context_of, function_of, variable_of, version_of, members_of, kept, file_of}
use Rattle.apl_workspace_file.specs.declared.error.TreeError.TheVariants.{Form}
use Rattle.apl_workspace_file.specs.declared.fields.Version.{Version}
use Rattle.apl_workspace_file.specs.declared.fields.Version.TheVariants.{One, Two}
use Rattle.apl_workspace_file.specs.declared.fields.File.{File}
use Rattle.apl_workspace_file.specs.declared.fields.ArrayField.{ArrayField}
use Rattle.apl_workspace_file.specs.declared.fields.Elements.{Elements}
use Rattle.apl_workspace_file.specs.declared.fields.Elements.TheVariants.{Numbers, Text}
use Rattle.apl_workspace_file.specs.declared.fields.ContextField.{ContextField}
use Rattle.apl_workspace_file.specs.declared.fields.ContextField.TheVariants.{Statement, Call, Execute}
use Rattle.apl_workspace_file.specs.declared.fields.RestField.{RestField}
use Rattle.apl_workspace_file.specs.declared.fields.OperandField.{OperandField}
use Rattle.apl_workspace_file.specs.declared.fields.OperandField.TheVariants.{Array, Slots}
use Rattle.apl_workspace_file.proofs.Codecs.{IsCodec, Always, bind_ok, test_ok, ok_is, wrapped_takes, whole_codec, number_codec, text_codec, word_codec, list_codec, option_codec, ended_codec, then_codec, object_codec, built}

wholes_codec : IsCodec (list_of whole_of) (list_tree whole_tree) (AllByRecursion IsWhole)
wholes_codec = list_codec whole_of whole_tree IsWhole whole_codec

numbers_list_codec : IsCodec (list_of number_of) (list_tree number_tree) (AllByRecursion IsNumber)
numbers_list_codec = list_codec number_of number_tree IsNumber number_codec

texts_codec : IsCodec (list_of text_of) (list_tree string) (AllByRecursion Always)
texts_codec = list_codec text_of string Always text_codec

all_always : (xs : List (List ℕ)) → AllByRecursion Always xs
all_always [] = tt
all_always (x ∷ xs) = (tt, all_always xs)

-- ---- arrays

nums_codec : IsCodec (object_of (with_field (codes "nums") (list_of number_of) (with_field (codes "shape") (list_of whole_of) ended)))
    (λ p. object (member (codes "nums") (list_tree number_tree p.0) (member (codes "shape") (list_tree whole_tree p.1.0) no_members)))
    (λ p. AllByRecursion IsNumber p.0 × (AllByRecursion IsWhole p.1.0 × Unit {0}))
nums_codec = object_codec _ _ _ (then_codec (codes "nums") _ _ _ numbers_list_codec _ _ _ (then_codec (codes "shape") _ _ _ wholes_codec _ _ _ ended_codec))

chars_codec : IsCodec (object_of (with_field (codes "shape") (list_of whole_of) (with_field (codes "text") text_of ended)))
    (λ p. object (member (codes "shape") (list_tree whole_tree p.0) (member (codes "text") (string p.1.0) no_members)))
    (λ p. AllByRecursion IsWhole p.0 × (Unit {0} × Unit {0}))
chars_codec = object_codec _ _ _ (then_codec (codes "shape") _ _ _ wholes_codec _ _ _ (then_codec (codes "text") _ _ _ text_codec _ _ _ ended_codec))

numbers_take : (d : Data) (a : ArrayField) → numbers_of d ≡ Ok a → (d ≡ array_tree a) × FitsArray a
unfolding numbers_of
numbers_take d a e = wrapped_takes _ _ _ nums_codec (λ p. record { shape = p.1.0; elements = Numbers p.0 }) array_tree FitsArray (λ p. refl) (λ p h. (h.1.0, h.0)) d a e

characters_take : (d : Data) (a : ArrayField) → characters_of d ≡ Ok a → (d ≡ array_tree a) × FitsArray a
unfolding characters_of
characters_take d a e = wrapped_takes _ _ _ chars_codec (λ p. record { shape = p.0; elements = Text p.1.0 }) array_tree FitsArray (λ p. refl) (λ p h. (h.0, tt)) d a e

array_takes : (d : Data) (a : ArrayField) → array_of d ≡ Ok a → (d ≡ array_tree a) × FitsArray a
unfolding array_of
array_takes d a e = either (has (codes "nums") d) e
  where
    either : (b : Bool) → cond b (numbers_of d) (characters_of d) ≡ Ok a → (d ≡ array_tree a) × FitsArray a
    either true e = numbers_take d a e
    either false e = characters_take d a e

array_again_at : (shape : List ℕ) (e : Elements) → AllByRecursion IsWhole shape → FitsElements e → array_of (elements_tree shape e) ≡ Ok (record { shape = shape; elements = e })
unfolding array_of numbers_of characters_of
array_again_at shape (Numbers zs) hs he = ap (λ r. r >>= λ p. Ok (record { shape = p.1.0; elements = Numbers p.0 })) (IsCodec.again nums_codec (zs, (shape, tt)) (he, (hs, tt)))
array_again_at shape (Text s) hs he = ap (λ r. r >>= λ p. Ok (record { shape = p.0; elements = Text p.1.0 })) (IsCodec.again chars_codec (shape, (s, tt)) (hs, (tt, tt)))

array_again : (a : ArrayField) → FitsArray a → array_of (array_tree a) ≡ Ok a
array_again a h = array_again_at a.shape a.elements h.0 h.1

array_codec : IsCodec array_of array_tree FitsArray
array_codec = record { takes = array_takes; again = array_again }

no_array : (a : ArrayField) → ¬ (array_of null ≡ Ok a)
unfolding array_of characters_of
no_array a e = absurd cc

maybe_array_codec : IsCodec (option_of array_of) (option_tree array_tree) (FitsOption FitsArray)
maybe_array_codec = option_codec array_of array_tree FitsArray array_codec no_array

-- ---- operands

slots_codec : IsCodec slots_of (λ slots. object (member (codes "slots") (list_tree (option_tree array_tree) slots) no_members)) (AllByRecursion (FitsOption FitsArray))
unfolding slots_of
slots_codec = built _ _ _ (object_codec _ _ _ (then_codec (codes "slots") _ _ _ (list_codec (option_of array_of) (option_tree array_tree) (FitsOption FitsArray) maybe_array_codec) _ _ _ ended_codec))
    (λ p. p.0) (λ slots. (slots, tt)) _ _ (λ slots. refl) (λ p. refl) (λ p h. h.0) (λ slots h. (h, tt))

operand_takes : (d : Data) (o : OperandField) → operand_of d ≡ Ok o → (d ≡ operand_tree o) × FitsOperand o
unfolding operand_of
operand_takes d o e = either (has (codes "slots") d) e
  where
    either : (b : Bool) → cond b (slots_of d >>= λ s. Ok (Slots s)) (array_of d >>= λ a. Ok (Array a)) ≡ Ok o → (d ≡ operand_tree o) × FitsOperand o
    either true e = wrapped_takes _ _ _ slots_codec Slots operand_tree FitsOperand (λ s. refl) (λ s h. h) d o e
    either false e = wrapped_takes _ _ _ array_codec Array operand_tree FitsOperand (λ a. refl) (λ a h. h) d o e

operand_array_again : (shape : List ℕ) (e : Elements) → AllByRecursion IsWhole shape → FitsElements e → operand_of (elements_tree shape e) ≡ Ok (Array (record { shape = shape; elements = e }))
unfolding operand_of
operand_array_again shape (Numbers zs) hs he = ap (λ r. r >>= λ a. Ok (Array a)) (array_again_at shape (Numbers zs) hs he)
operand_array_again shape (Text s) hs he = ap (λ r. r >>= λ a. Ok (Array a)) (array_again_at shape (Text s) hs he)

operand_again : (o : OperandField) → FitsOperand o → operand_of (operand_tree o) ≡ Ok o
unfolding operand_of
operand_again (Array a) h = operand_array_again a.shape a.elements h.0 h.1
operand_again (Slots slots) h = ap (λ r. r >>= λ s. Ok (Slots s)) (IsCodec.again slots_codec slots h)

operand_codec : IsCodec operand_of operand_tree FitsOperand
operand_codec = record { takes = operand_takes; again = operand_again }

operands_codec : IsCodec (list_of operand_of) (list_tree operand_tree) (AllByRecursion FitsOperand)
operands_codec = list_codec operand_of operand_tree FitsOperand operand_codec

-- ---- contexts

rest_codec : IsCodec rest_of rest_tree FitsRest
unfolding rest_of
rest_codec = built _ _ _ (object_codec _ _ _
    (then_codec (codes "classes") _ _ _ text_codec _ _ _ (then_codec (codes "code") _ _ _ text_codec _ _ _ (then_codec (codes "done") _ _ _ whole_codec _ _ _
    (then_codec (codes "operands") _ _ _ operands_codec _ _ _ ended_codec)))))
    (λ p. record { classes = p.0; code = p.1.0; done = p.1.1.0; operands = p.1.1.1.0 }) (λ r. (r.classes, (r.code, (r.done, (r.operands, tt))))) _ FitsRest
    (λ r. refl) (λ p. refl) (λ p h. (h.1.1.0, h.1.1.1.0)) (λ r h. (tt, (tt, (h.0, (h.1, tt)))))

no_rest : (r : RestField) → ¬ (rest_of null ≡ Ok r)
unfolding rest_of
no_rest r e = absurd cc

local_codec : IsCodec local_of local_tree FitsLocal
unfolding local_of
local_codec = built _ _ _ (object_codec _ _ _
    (then_codec (codes "name") _ _ _ text_codec _ _ _ (then_codec (codes "value") _ _ _ maybe_array_codec _ _ _ ended_codec)))
    (λ p. record { name = p.0; value = p.1.0 }) (λ l. (l.name, (l.value, tt))) _ FitsLocal
    (λ l. refl) (λ p. refl) (λ p h. h.1.0) (λ l h. (tt, (h, tt)))

locals_codec : IsCodec (list_of local_of) (list_tree local_tree) (AllByRecursion FitsLocal)
locals_codec = list_codec local_of local_tree FitsLocal local_codec

maybe_rest_codec : IsCodec (option_of rest_of) (option_tree rest_tree) (FitsOption FitsRest)
maybe_rest_codec = option_codec rest_of rest_tree FitsRest rest_codec no_rest

statement_codec : IsCodec statement_of statement_tree FitsStatement
unfolding statement_of
statement_codec = built _ _ _ (object_codec _ _ _
    (then_codec (codes "kind") _ _ _ (word_codec (codes "statement")) _ _ _ (then_codec (codes "line") _ _ _ text_codec _ _ _ (then_codec (codes "rest") _ _ _ rest_codec _ _ _ ended_codec))))
    (λ p. record { line = p.1.0; rest = p.1.1.0 }) (λ s. (tt, (s.line, (s.rest, tt)))) _ FitsStatement
    (λ s. refl) (λ p. refl) (λ p h. h.1.1.0) (λ s h. (tt, (tt, (h, tt))))

execute_codec : IsCodec execute_of execute_tree FitsStatement
unfolding execute_of
execute_codec = built _ _ _ (object_codec _ _ _
    (then_codec (codes "kind") _ _ _ (word_codec (codes "execute")) _ _ _ (then_codec (codes "rest") _ _ _ rest_codec _ _ _ (then_codec (codes "text") _ _ _ text_codec _ _ _ ended_codec))))
    (λ p. record { line = p.1.1.0; rest = p.1.0 }) (λ s. (tt, (s.rest, (s.line, tt)))) _ FitsStatement
    (λ s. refl) (λ p. refl) (λ p h. h.1.0) (λ s h. (tt, (h, (tt, tt))))

call_codec : IsCodec call_of call_tree FitsCall
unfolding call_of
call_codec = built _ _ _ (object_codec _ _ _
    (then_codec (codes "at") _ _ _ whole_codec _ _ _ (then_codec (codes "header") _ _ _ text_codec _ _ _ (then_codec (codes "kind") _ _ _ (word_codec (codes "call")) _ _ _
    (then_codec (codes "lines") _ _ _ texts_codec _ _ _ (then_codec (codes "locals") _ _ _ locals_codec _ _ _ (then_codec (codes "rest") _ _ _ maybe_rest_codec _ _ _ ended_codec)))))))
    (λ p. record { at = p.0; header = p.1.0; lines = p.1.1.1.0; locals = p.1.1.1.1.0; rest = p.1.1.1.1.1.0 })
    (λ c. (c.at, (c.header, (tt, (c.lines, (c.locals, (c.rest, tt))))))) _ FitsCall
    (λ c. refl) (λ p. refl) (λ p h. (h.0, h.1.1.1.1.0, h.1.1.1.1.1.0)) (λ c h. (h.0, (tt, (tt, (all_always c.lines, (h.1, (h.2, tt)))))))

context_takes : (d : Data) (c : ContextField) → context_of d ≡ Ok c → (d ≡ context_tree c) × FitsContext c
unfolding context_of
context_takes d c e = of_kind (kind_of d) e
  where
    which : (a b x : Bool) → cond a (call_of d >>= λ c. Ok (Call c)) (cond b (statement_of d >>= λ s. Ok (Statement s)) (cond x (execute_of d >>= λ s. Ok (Execute s)) (Err Form))) ≡ Ok c
        → (d ≡ context_tree c) × FitsContext c
    which true b x e = wrapped_takes _ _ _ call_codec Call context_tree FitsContext (λ c. refl) (λ c h. h) d c e
    which false true x e = wrapped_takes _ _ _ statement_codec Statement context_tree FitsContext (λ s. refl) (λ s h. h) d c e
    which false false true e = wrapped_takes _ _ _ execute_codec Execute context_tree FitsContext (λ s. refl) (λ s h. h) d c e
    which false false false e = absurd cc

    of_kind : (k : Option (List ℕ)) → context_named k d ≡ Ok c → (d ≡ context_tree c) × FitsContext c
    of_kind None e = absurd cc
    of_kind (Some k) e = which (bytes_eq k (codes "call")) (bytes_eq k (codes "statement")) (bytes_eq k (codes "execute")) e

context_again : (c : ContextField) → FitsContext c → context_of (context_tree c) ≡ Ok c
unfolding context_of
context_again (Statement s) h = ap (λ r. r >>= λ x. Ok (Statement x)) (IsCodec.again statement_codec s h)
context_again (Call c) h = ap (λ r. r >>= λ x. Ok (Call x)) (IsCodec.again call_codec c h)
context_again (Execute s) h = ap (λ r. r >>= λ x. Ok (Execute x)) (IsCodec.again execute_codec s h)

context_codec : IsCodec context_of context_tree FitsContext
context_codec = record { takes = context_takes; again = context_again }

-- ---- files

function_codec : IsCodec function_of function_tree FitsFunction
unfolding function_of
function_codec = built _ _ _ (object_codec _ _ _
    (then_codec (codes "header") _ _ _ text_codec _ _ _ (then_codec (codes "lines") _ _ _ texts_codec _ _ _ (then_codec (codes "stop") _ _ _ wholes_codec _ _ _
    (then_codec (codes "trace") _ _ _ wholes_codec _ _ _ ended_codec)))))
    (λ p. record { header = p.0; lines = p.1.0; stop = p.1.1.0; trace = p.1.1.1.0 }) (λ f. (f.header, (f.lines, (f.stop, (f.trace, tt))))) _ FitsFunction
    (λ f. refl) (λ p. refl) (λ p h. (h.1.1.0, h.1.1.1.0)) (λ f h. (tt, (all_always f.lines, (h.0, (h.1, tt)))))

variable_codec : IsCodec variable_of variable_tree FitsVariable
unfolding variable_of
variable_codec = built _ _ _ (object_codec _ _ _
    (then_codec (codes "name") _ _ _ text_codec _ _ _ (then_codec (codes "value") _ _ _ array_codec _ _ _ ended_codec)))
    (λ p. record { name = p.0; value = p.1.0 }) (λ v. (v.name, (v.value, tt))) _ FitsVariable
    (λ v. refl) (λ p. refl) (λ p h. h.1.0) (λ v h. (tt, (h, tt)))

version_takes : (d : Data) (v : Version) → version_of d ≡ Ok v → (d ≡ version_tree v) × Always v
unfolding version_of
version_takes d v e =
    let n = bind_ok (whole_of d) (λ n. cond (eqb n 1) (Ok One) (cond (eqb n 2) (Ok Two) (Err Form))) v e in
    let w = IsCodec.takes whole_codec d n.0 n.1 in
    (w.0 ∙ one_or_two n.0 (eqb n.0 1) (eqb n.0 2) refl refl n.2, tt)
  where
    one_or_two : (n : ℕ) (a b : Bool) → eqb n 1 ≡ a → eqb n 2 ≡ b → cond a (Ok One) (cond b (Ok Two) (Err Form)) ≡ Ok v → whole_tree n ≡ version_tree v
    one_or_two n true b is is2 e = ap whole_tree (eqb-true n 1 is) ∙ ap version_tree (ok_is One v e)
    one_or_two n false true is is2 e = ap whole_tree (eqb-true n 2 is2) ∙ ap version_tree (ok_is Two v e)
    one_or_two n false false is is2 e = absurd cc

version_again : (v : Version) → Always v → version_of (version_tree v) ≡ Ok v
unfolding version_of whole_of
version_again One h = refl
version_again Two h = refl

version_codec : IsCodec version_of version_tree Always
version_codec = record { takes = version_takes; again = version_again }

-- a file but for its origin, and the contexts that its version knows
abbrev FitsMembers : File → Type 0
FitsMembers f = IsWhole f.origin × AllByRecursion FitsContext f.contexts × AllByRecursion FitsFunction f.functions × AllByRecursion FitsVariable f.variables

members_codec : IsCodec members_of tree_of FitsMembers
unfolding members_of
members_codec = built _ _ _ (object_codec _ _ _
    (then_codec (codes "contexts") _ _ _ (list_codec context_of context_tree FitsContext context_codec) _ _ _
    (then_codec (codes "functions") _ _ _ (list_codec function_of function_tree FitsFunction function_codec) _ _ _ (then_codec (codes "io") _ _ _ whole_codec _ _ _
    (then_codec (codes "variables") _ _ _ (list_codec variable_of variable_tree FitsVariable variable_codec) _ _ _ (then_codec (codes "version") _ _ _ version_codec _ _ _ ended_codec))))))
    (λ p. record { version = p.1.1.1.1.0; functions = p.1.0; variables = p.1.1.1.0; origin = p.1.1.0; contexts = p.0 })
    (λ f. (f.contexts, (f.functions, (f.origin, (f.variables, (f.version, tt)))))) _ FitsMembers
    (λ f. refl) (λ p. refl) (λ p h. (h.1.1.0, h.0, h.1.0, h.1.1.1.0)) (λ f h. (h.1, (h.2, (h.0, (h.3, (tt, tt))))))

file_takes : (d : Data) (f : File) → file_of d ≡ Ok f → (d ≡ tree_of f) × Fits f
unfolding file_of
file_takes d f e =
    let g = bind_ok (members_of d) kept f e in
    let t = IsCodec.takes members_codec d g.0 g.1 in
    let v = test_ok (ltb g.0.origin 2 && fits_version g.0.version g.0.contexts) Form g.0 f g.2 in
    let both = both_true (ltb g.0.origin 2) (fits_version g.0.version g.0.contexts) v.0 in
    subst (λ (x : File). (d ≡ tree_of x) × Fits x) v.1
    (t.0, record { version = both.1; origin = ltb-true _ _ both.0; contexts = t.1.1; functions = t.1.2; variables = t.1.3 })
  where
    both_true : (a b : Bool) → a && b ≡ true → (a ≡ true) × (b ≡ true)
    both_true true b e = (refl, e)
    both_true false b e = absurd cc

file_again : (f : File) → Fits f → file_of (tree_of f) ≡ Ok f
unfolding file_of
file_again f h =
    let small : f.origin < 2 ^ 63 = omega (arith, h.origin) in
    let found : members_of (tree_of f) ≡ Ok f = IsCodec.again members_codec f (small, h.contexts, h.functions, h.variables) in
    let origin : ltb f.origin 2 ≡ true = lt-ltb _ _ h.origin in
    rw (found, origin, h.version) refl

pub file_codec : IsCodec file_of tree_of Fits
file_codec = record { takes = file_takes; again = file_again }
