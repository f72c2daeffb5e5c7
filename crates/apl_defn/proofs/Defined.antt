-- Lines define what their definition says, and are refused as it says.
use Rattle.std.proofs.Common.{◌≡◌, ℕ, suc, ◌+◌, ◌<◌, ◌≤◌, Bool, true, false, List, [], ◌∷◌, ◌++◌, length, Option, Some, None, Ok, Err, refl, sym, ap, ◌∙◌, subst, arith}
use Rattle.std.specs.Prelude.{nat_lt, if◌then◌else◌}
use Rattle.std.specs.List.{AllByRecursion}
use Rattle.std.proofs.lemmas.Bool.Decides.{nat_tests}
use Rattle.apl_tokens.specs.Tokens.{tokens_of, Answer}
use Rattle.apl_defn.specs.declared.error.DefnError.{DefnError}
use Rattle.apl_defn.specs.declared.error.DefnError.TheVariants as error
use Rattle.apl_defn.specs.Definitions.{Text, Header, Definition}
use Rattle.apl_defn.specs.Reading.{are_distinct, head_of}
use Rattle.apl_defn.specs.Defining.{fault_or, first_fault, all_names, made, with_lines, with_head, defined_of, IsDefined}
use Rattle.apl_defn.specs.Defines.{HasTokens, Headed, Defines, FaultyAt, IsRefused}
use Rattle.apl_defn.specs.Listing.{canonical}
use Rattle.apl_defn.proofs.Canon.{canonical_heads}
use Rattle.apl_defn.proofs.Once.{each_once, once_each as distinct}
use Rattle.apl_defn.proofs.Headings.{TokenLaws, head_heads, heads_head}
use Rattle.apl_defn.proofs.Limits.{not_more, more_not, defined_made, before_once, once_ok, once_twice}

-- lines without a fault have tokens
whole_case : TokenLaws → (n : ℕ) (l : Text) (ls : List Text) (a : Answer) → tokens_of l ≡ a → fault_or a n (first_fault (suc n) ls) ≡ None → (first_fault (suc n) ls ≡ None → AllByRecursion HasTokens ls) → AllByRecursion HasTokens (l ∷ ls)
whole_case laws n l ls (Ok ts) a e later = ((ts, laws.spells l ts a), later e)
whole_case laws n l ls (Err x) a e later = cc

whole_lines : TokenLaws → (n : ℕ) (lines : List Text) → first_fault n lines ≡ None → AllByRecursion HasTokens lines
whole_lines laws n [] e = tt
whole_lines laws n (l ∷ ls) e = whole_case laws n l ls (tokens_of l) refl e (λ f. whole_lines laws (suc n) ls f)

lines_whole : TokenLaws → (n : ℕ) (lines : List Text) → AllByRecursion HasTokens lines → first_fault n lines ≡ None
lines_whole laws n [] h = refl
lines_whole laws n (l ∷ ls) h = ap (λ a. fault_or a n (first_fault (suc n) ls)) (laws.spelled l h.0.0 h.0.1) ∙ lines_whole laws (suc n) ls h.1

-- the first fault behind k lines
record FaultyFrom (k n : ℕ) (lines : List Text) : Type 0 where
  pub prefix : List Text
  pub line : Text
  pub after : List Text
  pub lines_are : lines ≡ prefix ++ line ∷ after
  pub number : suc (k + length prefix) ≡ n
  pub whole : AllByRecursion HasTokens prefix
  pub faulty : HasTokens line → ⊥

faulty_case : TokenLaws → (k n : ℕ) (l : Text) (ls : List Text) (a : Answer) → tokens_of l ≡ a → fault_or a (suc k) (first_fault (suc (suc k)) ls) ≡ Some n → (first_fault (suc (suc k)) ls ≡ Some n → FaultyFrom (suc k) n ls) → FaultyFrom k n (l ∷ ls)
faulty_case laws k n l ls (Ok ts) a e later =
    let f = later e in
    let number : suc (suc k + length f.prefix) ≡ n = f.number in
    record { prefix = l ∷ f.prefix; line = f.line; after = f.after; lines_are = ap (λ xs. l ∷ xs) f.lines_are; number = omega arith; whole = ((ts, laws.spells l ts a), f.whole); faulty = f.faulty }
faulty_case laws k n l ls (Err x) a e later =
    let m : suc k ≡ n = cc in
    record { prefix = []; line = l; after = ls; lines_are = refl; number = omega arith; whole = tt; faulty = λ t. let s = laws.spelled l t.0 t.1 in cc }

faulty_from : TokenLaws → (k n : ℕ) (lines : List Text) → first_fault (suc k) lines ≡ Some n → FaultyFrom k n lines
faulty_from laws k n [] e = cc
faulty_from laws k n (l ∷ ls) e = faulty_case laws k n l ls (tokens_of l) refl e (λ f. faulty_from laws (suc k) n ls f)

faulty_at : TokenLaws → (n : ℕ) (lines : List Text) → first_fault 1 lines ≡ Some n → FaultyAt n lines
faulty_at laws n lines e =
    let f = faulty_from laws 0 n lines e in
    let number : suc (0 + length f.prefix) ≡ n = f.number in
    record { prefix = f.prefix; line = f.line; after = f.after; lines_are = f.lines_are; number = omega arith; whole = f.whole; faulty = f.faulty }

found_case : TokenLaws → (k : ℕ) (line : Text) (after : List Text) (a : Answer) → tokens_of line ≡ a → (HasTokens line → ⊥) → fault_or a (suc k) (first_fault (suc (suc k)) after) ≡ Some (suc k)
found_case laws k line after (Ok ts) a faulty = absurd (faulty (ts, laws.spells line ts a))
found_case laws k line after (Err x) a faulty = refl

fault_found : TokenLaws → (k : ℕ) (prefix : List Text) (line : Text) (after : List Text) → AllByRecursion HasTokens prefix → (HasTokens line → ⊥) → first_fault (suc k) (prefix ++ line ∷ after) ≡ Some (suc (k + length prefix))
fault_found laws k [] line after whole faulty =
    let e : suc k ≡ suc (k + 0) = omega arith in
    found_case laws k line after (tokens_of line) refl faulty ∙ ap Some e
fault_found laws k (l ∷ prefix) line after whole faulty =
    let e : suc (suc k + length prefix) ≡ suc (k + suc (length prefix)) = omega arith in
    ap (λ a. fault_or a (suc k) (first_fault (suc (suc k)) (prefix ++ line ∷ after))) (laws.spelled l whole.0.0 whole.0.1) ∙ fault_found laws (suc k) prefix line after whole.1 faulty ∙ ap Some e

found_at : TokenLaws → (n : ℕ) (lines : List Text) → FaultyAt n lines → first_fault 1 lines ≡ Some n
found_at laws n lines f =
    let e : suc (0 + length f.prefix) ≡ suc (length f.prefix) = omega arith in
    ap (first_fault 1) f.lines_are ∙ fault_found laws 0 f.prefix f.line f.after f.whole f.faulty ∙ ap Some (e ∙ f.number)

-- a header in prefix
headed : TokenLaws → (first : Text) (rest : List Text) (h : Header) → head_of first ≡ Some h → Headed (first ∷ rest) h rest
headed laws first rest h e = record { first = first; lines_are = refl; header = head_heads laws first h e }

pub read : TokenLaws → (lines : List Text) (d : Definition) → defined_of lines ≡ Ok d → Defines lines d
unfolding defined_of
read laws [] d e = cc
read laws (first ∷ rest) d e =
    let p = defined_made first rest d e in
    let m = p.2 in
    subst (Defines (first ∷ rest)) m.is (record { headed = headed laws first rest p.0 p.1; few = m.few; whole = whole_lines laws 1 rest m.whole; labels = refl; once = each_once (all_names (made p.0 rest)) m.once })

pub reads : TokenLaws → (lines : List Text) (d : Definition) → Defines lines d → defined_of lines ≡ Ok d
reads laws lines d p =
    ap defined_of p.headed.lines_are
    ∙ before_once p.headed.first d.header d.lines (heads_head laws p.headed.first d.header p.headed.header) p.few (lines_whole laws 1 d.lines p.whole)
    ∙ once_ok d.header d.lines d.labels p.labels (distinct (all_names d) p.once)

-- which refusal was found
more : (n m : ℕ) → nat_lt n m ≡ true → n < m
more n m h = grind (arith, nat_tests)

is_more : (n m : ℕ) → n < m → nat_lt n m ≡ true
is_more n m h = grind (arith, nat_tests)

twice_case : (b : Bool) (h : Header) (rest : List Text) (e : DefnError) → are_distinct (all_names (made h rest)) ≡ b → (if b then Ok (made h rest) else Err error.Twice) ≡ Err e → (error.Twice ≡ e) × (are_distinct (all_names (made h rest)) ≡ false)
twice_case true h rest e d r = cc
twice_case false h rest e d r = (cc, d)

fault_case : TokenLaws → (lines : List Text) (h : Header) (rest : List Text) (o : Option ℕ) (e : DefnError) → Headed lines h rest → length rest ≤ 999 → first_fault 1 rest ≡ o → with_lines h rest o ≡ Err e → IsRefused e lines
fault_case laws lines h rest None e head few f r =
    let t = twice_case (are_distinct (all_names (made h rest))) h rest e refl r in
    subst (λ (x : DefnError). IsRefused x lines) t.0 (record { h = h; rest = rest; headed = head; few = few; whole = whole_lines laws 1 rest f; twice = λ o. let d = distinct (all_names (made h rest)) o in let g = t.1 in cc })
fault_case laws lines h rest (Some n) e head few f r =
    let same : error.Line n ≡ e = cc in
    subst (λ (x : DefnError). IsRefused x lines) same (record { h = h; rest = rest; headed = head; few = few; faulty = faulty_at laws n rest f })

long_case : TokenLaws → (lines : List Text) (h : Header) (rest : List Text) (b : Bool) (e : DefnError) → Headed lines h rest → nat_lt 999 (length rest) ≡ b → (if b then Err error.TooLong else with_lines h rest (first_fault 1 rest)) ≡ Err e → IsRefused e lines
long_case laws lines h rest true e head b r =
    let same : error.TooLong ≡ e = cc in
    subst (λ (x : DefnError). IsRefused x lines) same (record { h = h; rest = rest; headed = head; many = more 999 (length rest) b })
long_case laws lines h rest false e head b r = fault_case laws lines h rest (first_fault 1 rest) e head (not_more 999 (length rest) b) refl r

-- no header in prefix
unheaded : TokenLaws → (first : Text) (rest : List Text) → head_of first ≡ None → (h : Header) (r : List Text) → Headed (first ∷ rest) h r → ⊥
unheaded laws first rest none h r p =
    let same : first ≡ p.first = let e = p.lines_are in cc in
    let some = ap head_of same ∙ heads_head laws p.first h p.header in
    let clash : None ≡ Some h = sym none ∙ some in
    cc

head_case : TokenLaws → (first : Text) (rest : List Text) (o : Option Header) (e : DefnError) → head_of first ≡ o → with_head o rest ≡ Err e → IsRefused e (first ∷ rest)
head_case laws first rest None e o r =
    let same : error.Header ≡ e = cc in
    subst (λ (x : DefnError). IsRefused x (first ∷ rest)) same (unheaded laws first rest o)
head_case laws first rest (Some h) e o r = long_case laws (first ∷ rest) h rest (nat_lt 999 (length rest)) e (headed laws first rest h o) refl r

pub refused : TokenLaws → (lines : List Text) (e : DefnError) → defined_of lines ≡ Err e → IsRefused e lines
unfolding defined_of
refused laws [] e r =
    let same : error.Header ≡ e = cc in
    subst (λ (x : DefnError). IsRefused x []) same (λ h rest p. let f = p.lines_are in cc)
refused laws (first ∷ rest) e r = head_case laws first rest (head_of first) e refl r

none_case : TokenLaws → (first : Text) (rest : List Text) (o : Option Header) → head_of first ≡ o → ((h : Header) (r : List Text) → Headed (first ∷ rest) h r → ⊥) → with_head o rest ≡ Err error.Header
none_case laws first rest None e n = refl
none_case laws first rest (Some h) e n = absurd (n h rest (headed laws first rest h e))

no_header : TokenLaws → (lines : List Text) → ((h : Header) (rest : List Text) → Headed lines h rest → ⊥) → defined_of lines ≡ Err error.Header
unfolding defined_of
no_header laws [] n = refl
no_header laws (first ∷ rest) n = none_case laws first rest (head_of first) refl n

-- behind a header the number of lines is looked at
behind : TokenLaws → (lines : List Text) (h : Header) (rest : List Text) → Headed lines h rest → defined_of lines ≡ (if nat_lt 999 (length rest) then Err error.TooLong else with_lines h rest (first_fault 1 rest))
unfolding defined_of
behind laws lines h rest p = ap defined_of p.lines_are ∙ ap (λ o. with_head o rest) (heads_head laws p.first h p.header)

-- behind few lines their faults are
few_behind : TokenLaws → (lines : List Text) (h : Header) (rest : List Text) (o : Option ℕ) → Headed lines h rest → length rest ≤ 999 → first_fault 1 rest ≡ o → defined_of lines ≡ with_lines h rest o
few_behind laws lines h rest o p few e = behind laws lines h rest p ∙ ap (λ b. if b then Err error.TooLong else with_lines h rest (first_fault 1 rest)) (more_not 999 (length rest) few) ∙ ap (with_lines h rest) e

not_distinct : (b : Bool) (h : Header) (rest : List Text) → are_distinct (all_names (made h rest)) ≡ b → ((d : are_distinct (all_names (made h rest)) ≡ true) → ⊥) → b ≡ false
not_distinct true h rest e n = absurd (n e)
not_distinct false h rest e n = refl

pub refuses : TokenLaws → (lines : List Text) (e : DefnError) → IsRefused e lines → defined_of lines ≡ Err e
refuses laws lines error.Header p = no_header laws lines p
refuses laws lines error.TooLong p = behind laws lines p.h p.rest p.headed ∙ ap (λ b. if b then Err error.TooLong else with_lines p.h p.rest (first_fault 1 p.rest)) (is_more 999 (length p.rest) p.many)
refuses laws lines (error.Line n) p = few_behind laws lines p.h p.rest (Some n) p.headed p.few (found_at laws n p.rest p.faulty)
refuses laws lines error.Twice p = few_behind laws lines p.h p.rest None p.headed p.few (lines_whole laws 1 p.rest p.whole) ∙ once_twice p.h p.rest (made p.h p.rest).labels refl (not_distinct (are_distinct (all_names (made p.h p.rest))) p.h p.rest refl (λ d. p.twice (each_once (all_names (made p.h p.rest)) d)))
refuses laws lines error.Memory p = absurd p

-- what is defined is defined again behind its canonical header
pub again : TokenLaws → (d : Definition) → IsDefined d → defined_of (canonical d.header ∷ d.lines) ≡ Ok d
again laws d p =
    let f = read laws (p.0 ∷ d.lines) d p.1 in
    reads laws (canonical d.header ∷ d.lines) d (record {
      headed = record { first = canonical d.header; lines_are = refl; header = canonical_heads f.headed.first d.header f.headed.header };
      few = f.few;
      whole = f.whole;
      labels = f.labels;
      once = f.once;
    })
