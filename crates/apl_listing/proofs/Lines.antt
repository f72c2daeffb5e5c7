-- Each line says one instruction.
use Rattle.std.proofs.Common.{◌≡◌, ℕ, suc, ◌+◌, ◌<◌, ◌^◌, true, false, List, [], ◌∷◌, ◌++◌, length, map, take, get_or, Some, refl, sym, ap, ◌∙◌, subst, arith, append_assoc, add-one}
use Rattle.std.specs.Prelude.{◌==◌, decimal, encode_utf8}
use Rattle.std.proofs.lemmas.Bool.{ne_eqb}
use Rattle.std.proofs.lemmas.List.{append-nil}
use Rattle.std.proofs.lemmas.List.Folds.{list_all-append}
use Rattle.std.proofs.lemmas.Str.{inside_one, encodes_same}
use Rattle.std.proofs.Math.Seq.{take-suc}
use Rattle.apl_charset.specs.Set.{is_member}
use Rattle.apl_charset.specs.Text.{IsText, bytes}
use Rattle.apl_charset.proofs.Members.{and_left, and_right}
use Rattle.apl_code.specs.Instr.{IsInstr, IsPlace}
use Rattle.apl_code.specs.declared.instr.Action.{Action}
use Rattle.apl_code.specs.declared.instr.Action.TheVariants.{Box, Phrase, End}
use Rattle.apl_code.specs.declared.row.Ending.TheVariants.{Branch, Escape, Shown, Hidden, Nothing, Fail}
use Rattle.apl_code.specs.declared.instr.Instr.{Instr}
use Rattle.apl_listing.specs.Listing.{fields, action_words, action_list, operand_words, body, line}
use Rattle.apl_listing.specs.inside.Reading.{past, words, ◌>>=◌, number_of, source_of, action_at, refilled, instr_of, instr_at}
use Rattle.apl_listing.specs.Assembly.{HasNoEnd}
use Rattle.apl_listing.proofs.Fields.{fields_both}
use Rattle.apl_listing.proofs.Signs.{is_sign, AreSigns, sign_member, decimal_signs}
use Rattle.apl_listing.proofs.Again.{AreWords, word_field, place_again, short, all_words, instr_signs, action_back, behind_words, operands_back}

pub place_small : (a : Action) (at : ℕ) → IsPlace a at → at < 1000
place_small Box at h = omega arith
place_small (Phrase r) at h = omega arith
place_small (End Branch) at h = omega arith
place_small (End Escape) at h = omega arith
place_small (End Shown) at h = omega arith
place_small (End Hidden) at h = omega arith
place_small (End Nothing) at h = omega arith
place_small (End Fail) at h = omega arith

-- the instruction is read from its words
pub instr_again : (i : Instr) → IsInstr i → instr_at (fields (all_words i) (64 ∷ decimal i.at)) ≡ Some i
instr_again i h =
    let t = fields (all_words i) (64 ∷ decimal i.at) in
    let ops = fields (operand_words i.action i.arguments) [] in
    let p = place_again (all_words i) (decimal i.at) (instr_signs i h) in
    let b : fields (all_words i) [] ≡ fields (action_words i.action) ops = fields_both (action_words i.action) (operand_words i.action i.arguments) [] in
    let n : number_of (decimal i.at) ≡ i.at = short i.at (place_small i.action i.at h.place) in
    ap (λ u. action_at u >>= instr_of u (past 64 t)) (p.0 ∙ b)
    ∙ ap (λ o. o >>= instr_of (fields (action_words i.action) ops) (past 64 t)) (action_back i h)
    ∙ ap (λ d. instr_of (fields (action_words i.action) ops) d i.action) p.1
    ∙ ap (λ r. refilled (action_list i.action) (map source_of (words r)) >>= λ ss. Some (record { action = i.action; arguments = ss; at = number_of (decimal i.at) })) (behind_words i.action ops)
    ∙ ap (λ o. o >>= λ ss. Some (record { action = i.action; arguments = ss; at = number_of (decimal i.at) })) (operands_back i h)
    ∙ ap (λ (m : ℕ). Some (record { action = i.action; arguments = i.arguments; at = m })) n

pub body_again : (n : ℕ) (i : Instr) → n < 2 ^ 64 → IsInstr i → instr_at (past 32 (body n i)) ≡ Some i
body_again n i lt h = ap instr_at (word_field (decimal n) (fields (all_words i) (64 ∷ decimal i.at)) (decimal_signs n lt)).1 ∙ instr_again i h

-- a line's characters are in the set
signs_text : (w : List ℕ) → AreSigns w → IsText w
signs_text [] h = refl
signs_text (c ∷ cs) h = rw (sign_member c (and_left _ _ h), signs_text cs (and_right (is_sign c) _ h)) refl

append_text : (a b : List ℕ) → IsText a → IsText b → IsText (a ++ b)
append_text a b h k = rw (list_all-append is_member a b, h, k) refl

cons_text : (c : ℕ) (b : List ℕ) → is_member c ≡ true → IsText b → IsText (c ∷ b)
cons_text c b h k = rw (h, k) refl

blank_member : (is_member 32 ≡ true) × (is_member 64 ≡ true)
unfolding is_member
blank_member = (refl, refl)

fields_text : (ws : List (List ℕ)) (rest : List ℕ) → AreWords ws → IsText rest → IsText (fields ws rest)
fields_text [] rest h k = k
fields_text (w ∷ ws) rest h k = append_text w (32 ∷ fields ws rest) (signs_text w h.0) (cons_text 32 (fields ws rest) blank_member.0 (fields_text ws rest h.1 k))

pub body_text : (n : ℕ) (i : Instr) → n < 2 ^ 64 → IsInstr i → IsText (body n i)
body_text n i lt h =
    let at : i.at < 2 ^ 64 = let s = place_small i.action i.at h.place in omega arith in
    fields_text (decimal n ∷ all_words i) (64 ∷ decimal i.at) (decimal_signs n lt, instr_signs i h) (cons_text 64 (decimal i.at) blank_member.1 (signs_text (decimal i.at) (decimal_signs i.at at)))

-- ends of lines
no_end_by : (bs : List ℕ) → ((k : ℕ) → k < length bs → get_or bs k 0 ≡ 10 → ⊥) → HasNoEnd bs
no_end_by [] h = tt
no_end_by (b ∷ bs) h = (ne_eqb b 10 (h 0 (omega arith)), no_end_by bs (λ k lt. h (suc k) (omega arith)))

ten_outside : is_member 10 ≡ false
unfolding is_member
ten_outside = refl

no_ten : (c : ℕ) → is_member c ≡ true → c ≡ 10 → ⊥
no_ten c h e = let t : true ≡ false = sym h ∙ ap is_member e ∙ ten_outside in cc

encode_no_end : (c : ℕ) → is_member c ≡ true → HasNoEnd (encode_utf8 c)
encode_no_end c h = no_end_by (encode_utf8 c) (λ k lt e. no_ten c h (inside_one c [] (encode_utf8 c) k (sym (append-nil (encode_utf8 c))) lt (omega arith) ∙ e))

no_end_both : (a b : List ℕ) → HasNoEnd a → HasNoEnd b → HasNoEnd (a ++ b)
no_end_both [] b h k = k
no_end_both (c ∷ a) b h k = (h.0, no_end_both a b h.1 k)

pub text_no_end : (text : List ℕ) → IsText text → HasNoEnd (bytes text)
text_no_end [] h = tt
text_no_end (c ∷ cs) h = no_end_both (encode_utf8 c) (bytes cs) (encode_no_end c (and_left _ _ h)) (text_no_end cs (and_right (is_member c) _ h))

no_end_here : (c : ℕ) → (c == 10) ≡ false → c ≡ 10 → ⊥
no_end_here c h e = let t : true ≡ false = sym (ap (λ d. d == 10) e) ∙ h in absurd (cc)

-- a text has one first line
pub one_first : (a b x y : List ℕ) → HasNoEnd a → HasNoEnd b → a ++ 10 ∷ x ≡ b ++ 10 ∷ y → (a ≡ b) × (x ≡ y)
one_first [] [] x y p q e = (refl, cc)
one_first [] (c ∷ b) x y p q e = let t : c ≡ 10 = cc in absurd (no_end_here c q.0 t)
one_first (c ∷ a) [] x y p q e = let t : c ≡ 10 = cc in absurd (no_end_here c p.0 t)
one_first (c ∷ a) (d ∷ b) x y p q e =
    let t : c ≡ d = cc in
    let u : a ++ 10 ∷ x ≡ b ++ 10 ∷ y = cc in
    let i = one_first a b x y p.1 q.1 u in
    (ap (λ w. w ∷ a) t ∙ ap (λ ws. d ∷ ws) i.0, i.1)

pub line_split : (n : ℕ) (i : Instr) (x : List ℕ) → line n i ++ x ≡ bytes (body n i) ++ 10 ∷ x
line_split n i x = append_assoc (bytes (body n i)) (10 ∷ []) x

pub body_no_end : (n : ℕ) (i : Instr) → n < 2 ^ 64 → IsInstr i → HasNoEnd (bytes (body n i))
body_no_end n i lt h = text_no_end (body n i) (body_text n i lt h)

-- each line says one instruction
pub one_line : (n : ℕ) (i j : Instr) (x y : List ℕ) → n < 1000 → IsInstr i → IsInstr j → line n i ++ x ≡ line n j ++ y → (i ≡ j) × (x ≡ y)
one_line n i j x y few hi hj e =
    let lt : n < 2 ^ 64 = omega arith in
    let f = one_first (bytes (body n i)) (bytes (body n j)) x y (body_no_end n i lt hi) (body_no_end n j lt hj) (sym (line_split n i x) ∙ e ∙ line_split n j y) in
    let b : body n i ≡ body n j = encodes_same (body n i) (body n j) f.0 in
    let s : Some i ≡ Some j = sym (body_again n i lt hi) ∙ ap (λ t. instr_at (past 32 t)) b ∙ body_again n j lt hj in
    (cc, f.1)

-- a first line is the line's, if the text begins with that
pub first_line : (n : ℕ) (j : Instr) (first rest x : List ℕ) → n < 2 ^ 64 → IsInstr j → HasNoEnd first → first ++ 10 ∷ rest ≡ line n j ++ x → first ≡ bytes (body n j)
first_line n j first rest x lt hj p e = (one_first first (bytes (body n j)) rest x p (body_no_end n j lt hj) (e ∙ line_split n j x)).0

-- a text without an end of a line begins with no line
pub no_line : (n : ℕ) (j : Instr) (text x : List ℕ) → HasNoEnd text → text ≡ line n j ++ x → ⊥
no_line n j text x p e = end_there (bytes (body n j)) x (subst HasNoEnd (e ∙ line_split n j x) p)
  where
    end_there : (b y : List ℕ) → HasNoEnd (b ++ 10 ∷ y) → ⊥
    end_there [] y h = no_end_here 10 h.0 refl
    end_there (c ∷ b) y h = end_there b y h.1

no_end_append : (a : List ℕ) (b : ℕ) → HasNoEnd a → (b == 10) ≡ false → HasNoEnd (a ++ b ∷ [])
no_end_append [] b p h = (h, tt)
no_end_append (c ∷ a) b p h = (p.0, no_end_append a b p.1 h)

pub no_end_more : (text : List ℕ) (i : ℕ) → i < length text → HasNoEnd (take i text) → (get_or text i 0 ≡ 10 → ⊥) → HasNoEnd (take (i + 1) text)
no_end_more text i lt p h =
    subst HasNoEnd (sym (ap (λ n. take n text) (add-one i) ∙ take-suc text i 0 lt)) (no_end_append (take i text) (get_or text i 0) p (ne_eqb (get_or text i 0) 10 h))
