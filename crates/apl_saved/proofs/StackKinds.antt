-- The instructions of a line leave on the operand stack what its forms want.
use Rattle.std.proofs.Common.{◌≡◌, ℕ, zero, suc, ◌+◌, ◌<◌, Bool, true, false, cond, zero-add, List, [], ◌∷◌, ◌++◌, length, take, drop, map, reverse, Option, Some, None, refl, sym, ap, ◌∙◌, arith}
use Rattle.std.specs.List.{count_by, drop-map}
use Rattle.std.proofs.lemmas.List.Sums.{sum_by-cons}
use Rattle.std.proofs.Math.Seq.{drop-append_seam}
use Rattle.std.proofs.lemmas.List.{map-append, take-append-drop}
use Rattle.apl_code.specs.declared.instr.Instr.{Instr}
use Rattle.apl_code.specs.declared.instr.Source.{Source}
use Rattle.apl_code.specs.declared.instr.Source.TheVariants.{Constant, Stack}
use Rattle.apl_code.specs.declared.row.Row.{Row}
use Rattle.apl_code.specs.declared.row.Row.TheVariants.{Index}
use Rattle.apl_listing.specs.declared.stack.Kind.{Kind as Stacked}
use Rattle.apl_listing.specs.declared.stack.Kind.TheVariants as stacked
use Rattle.apl_listing.specs.Kinds as listing
use Rattle.apl_listing.specs.Kinds.{is_stacked, puts, after}
use Rattle.apl_translate.specs.declared.form.Form.{Form}
use Rattle.apl_translate.specs.declared.form.Form.TheVariants as forms
use Rattle.apl_translate.specs.declared.form.Placed.{Placed}
use Rattle.apl_translate.specs.Phrase.{Kind, B, K, phrase, width, assigns}
use Rattle.apl_translate.specs.Translation.{Cell, kind_of, kinds, source, sources, held, slots, arguments, action_of, result_of, reduced, instruction, Follows, Translates}
use Rattle.apl_translate.specs.Forms.{wanted, wanted_kinds, IsFresh, forms_after, next_forms}
use Rattle.apl_translate.proofs.Settled.{IsSettled, settled_first, settled_fresh, settled_next, wanted-append, result_wanted}
use Rattle.apl_machine_state.specs.declared.operand.Operand.{Operand}
use Rattle.apl_machine_state.specs.declared.operand.Operand.TheVariants.{Value, Slots}
use Rattle.apl_machine_state.specs.Items.{kind_of_operand}
use Rattle.apl_frames.specs.declared.frame.Stage.TheVariants.{Pendent}
use Rattle.apl_frames.specs.Flat.{HasKinds}
use Rattle.apl_parts.proofs.Added.{map_reverse}
use Rattle.apl_saved.specs.Rules as rules

-- a kind without the empty slots of an index list
abbrev bare : Stacked → Kind
bare stacked.Value = B
bare (stacked.Slots empty) = K

-- ---- as many operands come from the stack as the forms want

one_more : (ss : List (Option Source)) → count_by is_stacked (Some Stack ∷ ss) ≡ suc (count_by is_stacked ss)
one_more ss = let e = sum_by-cons (λ x. cond (is_stacked x) 1 0) (Some Stack) ss in omega (arith, e)

no_more : (s : Option Source) (ss : List (Option Source)) → is_stacked s ≡ false → count_by is_stacked (s ∷ ss) ≡ count_by is_stacked ss
no_more s ss h = let e : count_by is_stacked (s ∷ ss) ≡ cond (is_stacked s) 1 0 + count_by is_stacked ss = sum_by-cons (λ x. cond (is_stacked x) 1 0) s ss in e ∙ ap (λ b. cond b 1 0 + count_by is_stacked ss) h ∙ zero-add (count_by is_stacked ss)

held_one : (f : Form) (cs : List (Cell Source)) (ks : List Kind) → count_by is_stacked (held cs) ≡ length ks → count_by is_stacked (held (source f ∷ cs)) ≡ length (wanted f ++ ks)
held_one (forms.Constant k) cs ks h = no_more (Some (Constant k)) (held cs) refl ∙ h
held_one forms.Given cs ks h = one_more (held cs) ∙ ap suc h
held_one forms.Slots cs ks h = one_more (held cs) ∙ ap suc h
held_one (forms.Word w) cs ks h = h

held_count : (ps : List Placed) → count_by is_stacked (held (sources ps)) ≡ length (wanted_kinds ps)
held_count [] = refl
held_count (p ∷ ps) = held_one p.form (sources ps) (wanted_kinds ps) (held_count ps)

slots_one : (f : Form) (b : Bool) (cs : List (Cell Source)) (ks : List Kind) → ((b : Bool) → count_by is_stacked (slots b cs) ≡ length ks) → count_by is_stacked (slots b (source f ∷ cs)) ≡ length (wanted f ++ ks)
slots_one (forms.Constant k) b cs ks h = no_more (Some (Constant k)) (slots true cs) refl ∙ h true
slots_one forms.Given b cs ks h = one_more (slots true cs) ∙ ap suc (h true)
slots_one forms.Slots b cs ks h = one_more (slots true cs) ∙ ap suc (h true)
slots_one (forms.Word w) true cs ks h = h false
slots_one (forms.Word w) false cs ks h = no_more None (slots false cs) refl ∙ h false

slots_count : (ps : List Placed) (b : Bool) → count_by is_stacked (slots b (sources ps)) ≡ length (wanted_kinds ps)
slots_count [] b = refl
slots_count (p ∷ ps) b = slots_one p.form b (sources ps) (wanted_kinds ps) (slots_count ps)

arguments_count : (r : Row) (ps : List Placed) → count_by is_stacked (arguments r (sources ps)) ≡ length (wanted_kinds ps)
arguments_count (Index n) ps = slots_count ps true
arguments_count r ps = held_count ps

-- ---- one instruction, and all

puts_one : (r : Row) (ss : List (Option Source)) → map bare (puts (action_of r) ss) ≡ kind_of (result_of r) ∷ []
puts_one (Index n) ss = refl
puts_one r ss = refl

next_kinds : (ps : List Placed) (st : List Stacked) (n : ℕ) (r : Row) → IsSettled ps → map bare st ≡ wanted_kinds ps → phrase None (kinds ps) ≡ Some (n, r) → map bare (after (instruction r (drop n ps)) st) ≡ wanted_kinds (take n ps ++ reduced r (drop n ps))
next_kinds ps st n r s k h =
    let fresh = settled_fresh ps n r s h in
    let rest = drop n ps in
    let phrase_ = take (width r) rest in
    let later = drop (width r) rest in
    let args = arguments r (sources phrase_) in
    let m = count_by is_stacked args in
    let k1 : map bare st ≡ wanted_kinds rest = k ∙ ap wanted_kinds (sym (take-append-drop n ps)) ∙ wanted-append (take n ps) rest ∙ ap (λ ks. ks ++ wanted_kinds rest) fresh in
    let k2 : map bare st ≡ wanted_kinds phrase_ ++ wanted_kinds later = k1 ∙ ap wanted_kinds (sym (take-append-drop (width r) rest)) ∙ wanted-append phrase_ later in
    let left : map bare (drop m st) ≡ wanted_kinds later = sym (drop-map bare m st) ∙ ap (drop m) k2 ∙ ap (λ c. drop c (wanted_kinds phrase_ ++ wanted_kinds later)) (arguments_count r phrase_) ∙ drop-append_seam (wanted_kinds phrase_) (wanted_kinds later) in
    map-append bare (puts (action_of r) args) (drop m st)
    ∙ ap (λ ks. ks ++ map bare (drop m st)) (puts_one r args)
    ∙ ap (λ ks. kind_of (result_of r) ∷ ks) left
    ∙ ap (λ ks. ks ++ wanted_kinds later) (sym (result_wanted r))
    ∙ ap (λ ks. ks ++ wanted_kinds (reduced r rest)) (sym fresh)
    ∙ sym (wanted-append (take n ps) (reduced r rest))

all_case : (k : ℕ) (i : Instr) (is : List Instr) (a : Bool) (ps : List Placed) (st : List Stacked) (o : Option (ℕ × Row)) → phrase None (kinds ps) ≡ o → IsSettled ps → map bare st ≡ wanted_kinds ps → Follows a ps i is (Translates is) o → suc k < length (i ∷ is)
    → ((b : Bool) (qs : List Placed) (su : List Stacked) → IsSettled qs → map bare su ≡ wanted_kinds qs → Translates is b qs → k < length is → map bare (listing.kinds su (take k is)) ≡ wanted_kinds (forms_after k qs))
    → map bare (listing.kinds (after i st) (take k is)) ≡ wanted_kinds (forms_after k (next_forms o ps))
all_case k i is a ps st None e s h t lt more = let n : length is ≡ 0 = ap length t.1 in absurd (omega (arith, lt))
all_case k i is a ps st (Some p) e s h t lt more =
    let next = next_kinds ps st p.0 p.1 s h e in
    more (assigns p.1) (next_forms (Some p) ps) (after i st) (settled_next ps p.0 p.1 s e) (ap (λ j. map bare (after j st)) t.0 ∙ next) t.1 (omega (arith, lt))

all_kinds : (k : ℕ) (is : List Instr) (a : Bool) (ps : List Placed) (st : List Stacked) → IsSettled ps → map bare st ≡ wanted_kinds ps → Translates is a ps → k < length is → map bare (listing.kinds st (take k is)) ≡ wanted_kinds (forms_after k ps)
all_kinds zero is a ps st s h t lt = h
all_kinds (suc k) [] a ps st s h t lt = absurd t
all_kinds (suc k) (i ∷ is) a ps st s h t lt = all_case k i is a ps st (phrase None (kinds ps)) refl s h t lt (λ b qs su. all_kinds k is b qs su)

bare_kinds : (os : List Operand) → map bare (map rules.kind_of os) ≡ map kind_of_operand os
bare_kinds [] = refl
bare_kinds (Value a ∷ os) = ap (λ ks. B ∷ ks) (bare_kinds os)
bare_kinds (Slots ss ∷ os) = ap (λ ks. K ∷ ks) (bare_kinds os)

-- where the instructions that are done leave these operands beneath a value, the forms that are left want them beneath the answer
pub pendent_kinds : (code : List Instr) (ps : List Placed) (done : ℕ) (os : List Operand) → IsFresh ps → Translates code false ps → done < length code → listing.kinds [] (take done code) ≡ stacked.Value ∷ reverse (map rules.kind_of os) → HasKinds Pendent (forms_after done ps) (reverse os)
pendent_kinds code ps done os f t lt h =
    let under : map bare (reverse (map rules.kind_of os)) ≡ map kind_of_operand (reverse os) = map_reverse bare (map rules.kind_of os) ∙ ap reverse (bare_kinds os) ∙ sym (map_reverse kind_of_operand os) in
    ap (λ ks. B ∷ ks) (sym under) ∙ ap (map bare) (sym h) ∙ all_kinds done code false ps [] (settled_first ps f) (sym f) t lt
