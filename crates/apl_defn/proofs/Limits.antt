-- What has few lines, and short ones with tokens.
use Rattle.std.proofs.Common.{◌≡◌, ℕ, zero, suc, ◌+◌, ◌-◌, ◌==◌, ◌≤◌, cond, Bool, true, false, List, [], ◌∷◌, ◌++◌, map, length, Option, Some, None, Ok, Err, refl, ap, sym, ◌∙◌, arith}
use Rattle.std.specs.Prelude.{is_ok, nat_lt, slice_get, unwrap_or, if◌then◌else◌}
use Rattle.std.proofs.lemmas.Bool.Decides.{nat_tests}
use Rattle.apl_tokens.specs.declared.token.Token.{Token}
use Rattle.apl_tokens.specs.declared.line.TokenError.TheVariants.{TooLong}
use Rattle.apl_tokens.specs.declared.place.Place.TheVariants.{Start}
use Rattle.apl_tokens.specs.Tokens.{Answer, tokens_of, balanced, pieces_of}
use Rattle.apl_defn.specs.declared.error.DefnError.TheVariants as error
use Rattle.apl_defn.specs.Definitions.{Text, Header, Definition, line_of, line_at}
use Rattle.apl_defn.specs.Headers.{names_of}
use Rattle.apl_defn.specs.Reading.{are_distinct, head_of}
use Rattle.apl_defn.specs.Defining.{fault_or, first_fault, labels_from, all_names, once_each, made, with_lines, with_head, defined_of, IsDefined, IsWhole}

pub not_more : (n m : ℕ) → nat_lt n m ≡ false → m ≤ n
not_more n m h = grind (arith, nat_tests)

-- a text with tokens is short
short_case : (b : Bool) (n : ℕ) (answer : Answer) (ts : List Token) → nat_lt 500 n ≡ b → (if b then Err (TooLong 501) else answer) ≡ Ok ts → n ≤ 500
short_case true n answer ts e h = cc
short_case false n answer ts e h = not_more 500 n e

pub text_short : (text : Text) (ts : List Token) → tokens_of text ≡ Ok ts → length text ≤ 500
unfolding tokens_of
text_short text ts h = short_case (nat_lt 500 (length text)) (length text) (balanced (pieces_of (length text + 1) (length text + 1) Start text)) ts refl h

-- what a function that is defined was made of
once_case : (b : Bool) (d e : Definition) → are_distinct (all_names d) ≡ b → (if b then Ok d else Err error.Twice) ≡ Ok e → (d ≡ e) × (are_distinct (all_names d) ≡ true)
once_case true d e i h = (cc, i)
once_case false d e i h = cc

-- it has these lines, few and without a fault, and its names differ
pub record Made (h : Header) (lines : List Text) (d : Definition) : Type 0 where
  pub is : made h lines ≡ d
  pub few : length lines ≤ 999
  pub whole : first_fault 1 lines ≡ None
  pub once : are_distinct (all_names (made h lines)) ≡ true

lines_case : (h : Header) (lines : List Text) (d : Definition) (o : Option ℕ) → first_fault 1 lines ≡ o → length lines ≤ 999 → with_lines h lines o ≡ Ok d → Made h lines d
lines_case h lines d None f few e = let p = once_case (are_distinct (all_names (made h lines))) (made h lines) d refl e in record { is = p.0; few = few; whole = f; once = p.1 }
lines_case h lines d (Some n) f few e = cc

few_case : (b : Bool) (h : Header) (lines : List Text) (d : Definition) → nat_lt 999 (length lines) ≡ b → (if b then Err error.TooLong else with_lines h lines (first_fault 1 lines)) ≡ Ok d → Made h lines d
few_case true h lines d b e = cc
few_case false h lines d b e = lines_case h lines d (first_fault 1 lines) refl (not_more 999 (length lines) b) e

head_case : (o : Option Header) (lines : List Text) (d : Definition) → with_head o lines ≡ Ok d → (h : Header) × (o ≡ Some h) × Made h lines d
head_case None lines d e = cc
head_case (Some h) lines d e = (h, refl, few_case (nat_lt 999 (length lines)) h lines d refl e)

pub defined_made : (first : Text) (lines : List Text) (d : Definition) → defined_of (first ∷ lines) ≡ Ok d → (h : Header) × (head_of first ≡ Some h) × Made h lines d
unfolding defined_of
defined_made first lines d e = head_case (head_of first) lines d e

pub few_lines : (d : Definition) → IsDefined d → length d.lines ≤ 999
few_lines d p = (defined_made p.0 d.lines d p.1).2.few

-- each of its lines has tokens
fault_case : (n : ℕ) (a : Answer) (later : Option ℕ) → fault_or a n later ≡ None → (later ≡ None) × ((ts : List Token) × (a ≡ Ok ts))
fault_case n (Ok ts) later e = (e, (ts, refl))
fault_case n (Err x) later e = cc

tokens_at : (n : ℕ) (lines : List Text) (k : ℕ) (text : Text) → first_fault n lines ≡ None → slice_get lines k ≡ Some text → (ts : List Token) × (tokens_of text ≡ Ok ts)
tokens_at n [] k text e is = cc
tokens_at n (l ∷ ls) zero text e is =
    let same : l ≡ text = cc in
    let t = (fault_case n (tokens_of l) (first_fault (suc n) ls) e).1 in
    (t.0, ap tokens_of (sym same) ∙ t.1)
tokens_at n (l ∷ ls) (suc k) text e is = tokens_at (suc n) ls k text (fault_case n (tokens_of l) (first_fault (suc n) ls) e).0 is

line_case : (b : Bool) (d : Definition) (n : ℕ) (text : Text) → first_fault 1 d.lines ≡ None → cond b None (slice_get d.lines (n - 1)) ≡ Some text → (ts : List Token) × (tokens_of text ≡ Ok ts)
line_case true d n text e is = cc
line_case false d n text e is = tokens_at 1 d.lines (n - 1) text e is

pub line_tokens : (d : Definition) (n : ℕ) (text : Text) → IsDefined d → line_at d.lines n ≡ Some text → (ts : List Token) × (tokens_of text ≡ Ok ts)
line_tokens d n text p is = line_case (n == 0) d n text (defined_made p.0 d.lines d p.1).2.whole is

pub line_short : (d : Definition) (n : ℕ) (text : Text) → IsDefined d → line_at d.lines n ≡ Some text → length text ≤ 500
line_short d n text p is = let t = line_tokens d n text p is in text_short text t.0 t.1

-- a line that is there is the one of its number
number_case : (b : Bool) (o : Option Text) (text : Text) → cond b None o ≡ Some text → unwrap_or o [] ≡ text
number_case true o text is = cc
number_case false None text is = cc
number_case false (Some t) text is = cc

pub line_is : (d : Definition) (n : ℕ) (text : Text) → line_at d.lines n ≡ Some text → line_of d n ≡ text
line_is d n text is = number_case (n == 0) (slice_get d.lines (n - 1)) text is

-- so no fault is found in it
pub line_sound : (d : Definition) (n : ℕ) (text : Text) → IsDefined d → line_at d.lines n ≡ Some text → is_ok (tokens_of text) ≡ false → ⊥
line_sound d n text p is fault =
    let t = line_tokens d n text p is in
    let fine : is_ok (tokens_of text) ≡ true = ap is_ok t.1 in
    cc

pub more_not : (n m : ℕ) → m ≤ n → nat_lt n m ≡ false
more_not n m h = grind (arith, nat_tests)

-- lines behind a header, few and without a fault
pub before_once : (first : Text) (h : Header) (lines : List Text) → head_of first ≡ Some h → length lines ≤ 999 → first_fault 1 lines ≡ None → defined_of (first ∷ lines) ≡ once_each (made h lines)
unfolding defined_of
before_once first h lines e few whole =
    ap (λ o. with_head o lines) e
    ∙ ap (λ b. if b then Err error.TooLong else with_lines h lines (first_fault 1 lines)) (more_not 999 (length lines) few)
    ∙ ap (with_lines h lines) whole

-- its labels are those, and its names differ
pub once_ok : (h : Header) (lines : List Text) (labels : List (Text × ℕ)) → labels ≡ labels_from 1 lines → are_distinct (names_of h ++ map (λ l. l.0) labels) ≡ true → once_each (made h lines) ≡ Ok (record { header = h; lines = lines; labels = labels })
once_ok h lines labels l d =
    let same : made h lines ≡ record { header = h; lines = lines; labels = labels } = ap (λ ls. record { header = h; lines = lines; labels = ls }) (sym l) in
    ap once_each same ∙ ap (λ b. if b then Ok (record { header = h; lines = lines; labels = labels }) else Err error.Twice) d

pub defined_ok : (h : Header) (lines : List Text) (labels : List (Text × ℕ)) → IsWhole h lines → labels ≡ labels_from 1 lines → are_distinct (names_of h ++ map (λ l. l.0) labels) ≡ true → IsDefined (record { header = h; lines = lines; labels = labels })
defined_ok h lines labels w l d =
    (w.first, before_once w.first h lines w.header w.few w.whole ∙ once_ok h lines labels l d)

pub once_twice : (h : Header) (lines : List Text) (labels : List (Text × ℕ)) → labels ≡ labels_from 1 lines → are_distinct (names_of h ++ map (λ l. l.0) labels) ≡ false → once_each (made h lines) ≡ Err error.Twice
once_twice h lines labels l d =
    let same : made h lines ≡ record { header = h; lines = lines; labels = labels } = ap (λ ls. record { header = h; lines = lines; labels = ls }) (sym l) in
    ap once_each same ∙ ap (λ b. if b then Ok (record { header = h; lines = lines; labels = labels }) else Err error.Twice) d
