-- Where a text stops to be a listing.
use Rattle.std.proofs.Common.{◌≡◌, ℕ, zero, suc, ◌+◌, ◌-◌, ◌<◌, ◌≤◌, Bool, true, false, List, [], ◌∷◌, ◌++◌, length, take, drop, refl, sym, ap, ◌∙◌, subst, arith, append_assoc, length-append, ⊎_elim}
use Rattle.std.proofs.lemmas.Bool.{cases_lt}
use Rattle.std.proofs.Math.Seq.{take-append_seam}
use Rattle.std.proofs.lemmas.List.{drop-drop}
use Rattle.apl_code.specs.declared.row.Ending.TheVariants.{Nothing}
use Rattle.apl_code.specs.declared.instr.Instr.{Instr}
use Rattle.apl_code.specs.declared.instr.Action.TheVariants.{End}
use Rattle.apl_code.specs.Code.{is_end, EndsOnce, IsCode}
use Rattle.apl_code.specs.Instr.{IsInstr, AreInstrs}
use Rattle.apl_listing.specs.declared.error.AsmError.TheVariants.{Form}
use Rattle.apl_listing.specs.Assembly.{HasLines, IsFault, ArePhrases, Reads}
use Rattle.apl_charset.specs.Text.{bytes}
use Rattle.apl_listing.specs.Listing.{body, line, listed}
use Rattle.apl_listing.proofs.Lines.{one_line}

append_nil : {X : Type 0} (xs : List X) → xs ++ [] ≡ xs
append_nil [] = refl
append_nil (x ∷ xs) = ap (λ ys. x ∷ ys) (append_nil xs)

-- a code goes on after these lines with one more
record Goes (n : ℕ) (code is : List Instr) (m : ℕ) (r rest : List ℕ) : Type 0 where
  i : Instr
  js : List Instr
  r' : List ℕ
  whole : is ≡ code ++ i ∷ js
  next : rest ≡ line (n + length code) i ++ r'
  then : r' ≡ listed (n + length code + 1) (take (m - length code - 1) js) ++ r

goes_on : (n : ℕ) (code is : List Instr) (m : ℕ) (r rest : List ℕ) → AreInstrs code → AreInstrs is → n + length code ≤ 1000 → m ≤ length is → length code < m → listed n (take m is) ++ r ≡ listed n code ++ rest → Goes n code is m r rest
goes_on n code [] m r rest hc hi lt le lm e = absurd (omega arith)
goes_on n code (i ∷ is) zero r rest hc hi lt le lm e = absurd (omega arith)
goes_on n [] (i ∷ is) (suc m) r rest hc hi lt le lm e =
    let z : n ≡ n + 0 = omega arith in
    let w : m ≡ suc m - 0 - 1 = omega arith in
    record {
      i = i;
      js = is;
      r' = listed (n + 1) (take m is) ++ r;
      whole = refl;
      next = sym e ∙ append_assoc (line n i) (listed (n + 1) (take m is)) r ∙ ap (λ k. line k i ++ (listed (n + 1) (take m is) ++ r)) z;
      then = ap (λ k. listed (k + 1) (take m is) ++ r) z ∙ ap (λ k. listed (n + 0 + 1) (take k is) ++ r) w;
    }
goes_on n (c ∷ code) (i ∷ is) (suc m) r rest hc hi lt le lm e =
    let o = one_line n i c (listed (n + 1) (take m is) ++ r) (listed (n + 1) code ++ rest) (omega arith) hi.0 hc.0 (sym (append_assoc (line n i) (listed (n + 1) (take m is)) r) ∙ e ∙ append_assoc (line n c) (listed (n + 1) code) rest) in
    let g = goes_on (n + 1) code is m r rest hc.1 hi.1 (omega arith) (omega arith) (omega arith) o.1 in
    let z : n + 1 + length code ≡ n + length (c ∷ code) = omega arith in
    let w : m - length code - 1 ≡ suc m - length (c ∷ code) - 1 = omega arith in
    record {
      i = g.i;
      js = g.js;
      r' = g.r';
      whole = ap (λ j. j ∷ is) o.0 ∙ ap (λ js. c ∷ js) g.whole;
      next = g.next ∙ ap (λ k. line k g.i ++ g.r') z;
      then = g.then ∙ ap (λ k. listed (k + 1) (take (m - length code - 1) g.js) ++ r) z ∙ ap (λ k. listed (n + length (c ∷ code) + 1) (take k g.js) ++ r) w;
    }

not_both : (b : Bool) → b ≡ true → b ≡ false → ⊥
not_both b t f = let e : true ≡ false = sym t ∙ f in cc

-- a whole listing is longer than phrases that it begins with
longer : (n : ℕ) (is code : List Instr) (rest : List ℕ) → AreInstrs is → AreInstrs code → ArePhrases code → EndsOnce is → n + length code < 1000 → listed n is ≡ listed n code ++ rest → length code < length is
longer n [] code rest hi hc p e lt q = absurd e
longer n (i ∷ is) [] rest hi hc p e lt q = omega arith
longer n (i ∷ []) (c ∷ code) rest hi hc p e lt q =
    let o = one_line n i c [] (listed (n + 1) code ++ rest) (omega arith) hi.0 hc.0 (q ∙ append_assoc (line n c) (listed (n + 1) code) rest) in
    absurd (not_both (is_end i.action) e (ap (λ (j : Instr). is_end j.action) o.0 ∙ p.0))
longer n (i ∷ j ∷ is) (c ∷ code) rest hi hc p e lt q =
    let o = one_line n i c (listed (n + 1) (j ∷ is)) (listed (n + 1) code ++ rest) (omega arith) hi.0 hc.0 (q ∙ append_assoc (line n c) (listed (n + 1) code) rest) in
    let l = longer (n + 1) (j ∷ is) code rest hi.1 hc.1 p.1 e.1 (omega arith) o.1 in
    omega arith

take_all : (is : List Instr) → take (length is) is ≡ is
take_all [] = refl
take_all (i ∷ is) = ap (λ js. i ∷ js) (take_all is)

-- Lines after which no code goes on as the text does are all that the text has in common with a listing.
form : (text : List ℕ) (code : List Instr) (rest : List ℕ) → HasLines text (length code) → AreInstrs code → length code ≤ 1000 → text ≡ listed 0 code ++ rest → ((i : Instr) (js : List Instr) (r : List ℕ) → IsCode (code ++ i ∷ js) → rest ≡ line (length code) i ++ r → ⊥) → ((is : List Instr) → IsCode is → listed 0 is ≡ text → length code < length is) → IsFault (Form (length code)) text
form text code rest has hc lt prefix stop long =
    let over : (m : ℕ) (is : List Instr) (r : List ℕ) → IsCode is → m ≤ length is → length code < m → text ≡ listed 0 (take m is) ++ r → ⊥ = λ m is r c le lm e.
    let g = goes_on 0 code is m r rest hc c.each (omega arith) le lm (sym e ∙ prefix) in
    let z : 0 + length code ≡ length code = omega arith in
    stop g.i g.js g.r' (subst IsCode g.whole c) (g.next ∙ ap (λ k. line k g.i ++ g.r') z) in (
      record { has = has; most = λ m h. ⊎_elim (λ lm. absurd (over m h.code h.rest h.is_code h.within lm h.prefix)) (λ ge. ge) (cases_lt (length code) m) },
      λ is c e. over (length is) is [] c (omega arith) (long is c e) (sym e ∙ ap (listed 0) (sym (take_all is)) ∙ sym (append_nil (listed 0 (take (length is) is)))),
    )

ends_append : (code : List Instr) (i : Instr) → ArePhrases code → is_end i.action ≡ true → EndsOnce (code ++ i ∷ [])
ends_append [] i p h = h
ends_append (c ∷ []) i p h = (p.0, h)
ends_append (c ∷ d ∷ code) i p h = (p.0, ends_append (d ∷ code) i p.1 h)

pub instrs_append : (code : List Instr) (i : Instr) → AreInstrs code → IsInstr i → AreInstrs (code ++ i ∷ [])
instrs_append [] i h k = (k, tt)
instrs_append (c ∷ code) i h k = (h.0, instrs_append code i h.1 k)

phrases_append : (code : List Instr) (i : Instr) → ArePhrases code → is_end i.action ≡ false → ArePhrases (code ++ i ∷ [])
phrases_append [] i h k = (k, tt)
phrases_append (c ∷ code) i h k = (h.0, phrases_append code i h.1 k)

listed_append : (n : ℕ) (code : List Instr) (i : Instr) → listed n (code ++ i ∷ []) ≡ listed n code ++ line (n + length code) i
listed_append n [] i = let z : n ≡ n + 0 = omega arith in append_nil (line n i) ∙ ap (λ k. line k i) z
listed_append n (c ∷ code) i =
    let z : n + 1 + length code ≡ n + length (c ∷ code) = omega arith in
    ap (λ t. line n c ++ t) (listed_append (n + 1) code i ∙ ap (λ k. listed (n + 1) code ++ line k i) z) ∙ sym (append_assoc (line n c) (listed (n + 1) code) (line (n + length (c ∷ code)) i))

listed_more : (code : List Instr) (i : Instr) (x : List ℕ) → listed 0 (code ++ i ∷ []) ++ x ≡ listed 0 code ++ (line (length code) i ++ x)
listed_more code i x =
    let z : 0 + length code ≡ length code = omega arith in
    ap (λ t. t ++ x) (listed_append 0 code i ∙ ap (λ k. listed 0 code ++ line k i) z) ∙ append_assoc (listed 0 code) (line (length code) i) x

code_with : (code : List Instr) (i : Instr) → length code < 1000 → AreInstrs code → ArePhrases code → IsInstr i → is_end i.action ≡ true → IsCode (code ++ i ∷ [])
code_with code i lt h p k e = record { few = omega (arith, length-append code (i ∷ [])); ends = ends_append code i p e; each = instrs_append code i h k }

ends_there : (code : List Instr) (i : Instr) (js : List Instr) → EndsOnce (code ++ i ∷ js) → EndsOnce (i ∷ js)
ends_there [] i js h = h
ends_there (c ∷ []) i js h = h.1
ends_there (c ∷ d ∷ code) i js h = ends_there (d ∷ code) i js h.1

after_end : (i : Instr) (js : List Instr) → EndsOnce (i ∷ js) → is_end i.action ≡ true → js ≡ []
after_end i [] h e = refl
after_end i (j ∷ js) h e = absurd (not_both (is_end i.action) e h.0)

instr_there : (code : List Instr) (i : Instr) (js : List Instr) → AreInstrs (code ++ i ∷ js) → IsInstr i
instr_there [] i js h = h.0
instr_there (c ∷ code) i js h = instr_there code i js h.1

nothing : Instr
nothing = record { action = End Nothing; arguments = []; at = 0 }

nothing_is : IsInstr nothing × (is_end nothing.action ≡ true)
unfolding nothing
nothing_is = (record { words = tt; takes = tt; place = refl }, refl)

some_more : (js : List Instr) (n k : ℕ) → 0 < length (listed n (take k js) ++ []) → 0 < length js
some_more [] n zero h = absurd (omega arith)
some_more [] n (suc k) h = absurd (omega arith)
some_more (j ∷ js) n k h = omega arith

module _ (text : List ℕ) (code : List Instr) (at : ℕ) (s : Reads text code at) where
  so_far : HasLines text (length code)
  so_far = record {
    code = code ++ nothing ∷ [];
    rest = drop at text;
    is_code = code_with code nothing s.few s.each s.phrases nothing_is.0 nothing_is.1;
    within = omega (arith, length-append code (nothing ∷ []));
    prefix = s.prefix ∙ ap (λ is. listed 0 is ++ drop at text) (sym (take-append_seam code (nothing ∷ [])));
  }

  is_longer : (is : List Instr) → IsCode is → listed 0 is ≡ text → length code < length is
  is_longer is c e = longer 0 is code (drop at text) c.each s.each s.phrases c.ends (omega (arith, s.few)) (e ∙ s.prefix)

  -- no line follows
  pub form_none : ((i : Instr) (r : List ℕ) → IsInstr i → drop at text ≡ line (length code) i ++ r → ⊥) → IsFault (Form (length code)) text
  form_none none = form text code (drop at text) so_far s.each (omega (arith, s.few)) s.prefix (λ i js r c e. none i r (instr_there code i js c.each) e) is_longer

  -- a phrase where only an ending may come
  pub form_full : (i : Instr) (x : List ℕ) → length code ≡ 999 → IsInstr i → is_end i.action ≡ false → drop at text ≡ line (length code) i ++ x → IsFault (Form (length code)) text
  form_full i x n k e f = form text code (drop at text) so_far s.each (omega (arith, s.few)) s.prefix (λ j js r c g. full_stop j js r c g) is_longer
    where
      full_stop : (j : Instr) (js : List Instr) (r : List ℕ) → IsCode (code ++ j ∷ js) → drop at text ≡ line (length code) j ++ r → ⊥
      full_stop j [] r c g = let o = one_line (length code) j i r x s.few (instr_there code j [] c.each) k (sym g ∙ f) in not_both (is_end j.action) (ends_there code j [] c.ends) (ap (λ (l : Instr). is_end l.action) o.0 ∙ e)
      full_stop j (l ∷ js) r c g = absurd (omega (arith, c.few, length-append code (j ∷ l ∷ js)))

  two_longer : (i : Instr) (x : List ℕ) → IsInstr i → 0 < length x → drop at text ≡ line (length code) i ++ x → (is : List Instr) → IsCode is → listed 0 is ≡ text → length code + 1 < length is
  two_longer i x k lx f is c g =
      let l = is_longer is c g in
      let m = goes_on 0 code is (length is) [] (drop at text) s.each c.each (omega (arith, s.few)) (omega arith) l (append_nil (listed 0 (take (length is) is)) ∙ ap (listed 0) (take_all is) ∙ g ∙ s.prefix) in
      let z : 0 + length code ≡ length code = omega arith in
      let o = one_line (length code) m.i i m.r' x s.few (instr_there code m.i m.js (subst AreInstrs m.whole c.each)) k (sym (m.next ∙ ap (λ q. line q m.i ++ m.r') z) ∙ f) in
      let lr : 0 < length (listed (0 + length code + 1) (take (length is - length code - 1) m.js) ++ []) = omega (arith, ap length (sym o.1 ∙ m.then)) in
      let some = some_more m.js (0 + length code + 1) (length is - length code - 1) lr in
      omega (arith, ap length m.whole, length-append code (m.i ∷ m.js), some)

  -- more text after the ending
  pub form_more : (i : Instr) (x : List ℕ) → IsInstr i → is_end i.action ≡ true → 0 < length x → drop at text ≡ line (length code) i ++ x → IsFault (Form (length code + 1)) text
  form_more i x k e lx f =
      let code' = code ++ i ∷ [] in
      let c' : IsCode code' = code_with code i s.few s.each s.phrases k e in
      let n : length code' ≡ length code + 1 = length-append code (i ∷ []) in
      let prefix' : text ≡ listed 0 code' ++ x = s.prefix ∙ ap (λ t. listed 0 code ++ t) f ∙ sym (listed_more code i x) in
      let has' : HasLines text (length code') = record { code = code'; rest = x; is_code = c'; within = omega arith; prefix = prefix' ∙ ap (λ is. listed 0 is ++ x) (sym (take_all code')) } in
      subst (λ m. IsFault (Form m) text) n (form text code' x has' c'.each c'.few prefix' (λ j js r c g. let t = after_end i (j ∷ js) (ends_there code i (j ∷ js) (subst EndsOnce (append_assoc code (i ∷ []) (j ∷ js)) c.ends)) e in absurd (cc)) (λ is c g. let l = two_longer i x k lx f is c g in omega arith))

  -- the ending ends the text
  pub whole : (i : Instr) (x : List ℕ) → IsInstr i → is_end i.action ≡ true → x ≡ [] → drop at text ≡ line (length code) i ++ x → IsCode (code ++ i ∷ []) × (listed 0 (code ++ i ∷ []) ≡ text)
  whole i x k e z f = (
    code_with code i s.few s.each s.phrases k e,
    sym (append_nil (listed 0 (code ++ i ∷ []))) ∙ ap (λ t. listed 0 (code ++ i ∷ []) ++ t) (sym z) ∙ listed_more code i x ∙ ap (λ t. listed 0 code ++ t) (sym f) ∙ sym s.prefix,
  )

  -- one phrase more
  pub read_more : (i : Instr) (len : ℕ) → length code < 999 → IsInstr i → is_end i.action ≡ false → at + len ≤ length text → drop at text ≡ line (length code) i ++ drop len (drop at text) → Reads text (code ++ i ∷ []) (at + len)
  read_more i len lt k e le f = record {
    few = omega (arith, length-append code (i ∷ []));
    each = instrs_append code i s.each k;
    phrases = phrases_append code i s.phrases e;
    within = le;
    prefix = s.prefix ∙ ap (λ t. listed 0 code ++ t) f ∙ sym (listed_more code i (drop len (drop at text))) ∙ ap (λ t. listed 0 (code ++ i ∷ []) ++ t) (drop-drop len at text);
  }

line_some : (n : ℕ) (i : Instr) (x : List ℕ) → [] ≡ line n i ++ x → ⊥
line_some n i x e = let z : 0 ≡ length (line n i ++ x) = ap length e in omega (arith, length-append (line n i) x, length-append (bytes (body n i)) (10 ∷ []))

-- different codes have different listings
pub listed_same : (n : ℕ) (c d : List Instr) → AreInstrs c → AreInstrs d → n + length c ≤ 1000 → listed n c ≡ listed n d → c ≡ d
listed_same n [] [] hc hd le e = refl
listed_same n [] (j ∷ d) hc hd le e = absurd (line_some n j (listed (n + 1) d) e)
listed_same n (i ∷ c) [] hc hd le e = absurd (line_some n i (listed (n + 1) c) (sym e))
listed_same n (i ∷ c) (j ∷ d) hc hd le e =
    let o = one_line n i j (listed (n + 1) c) (listed (n + 1) d) (omega arith) hc.0 hd.0 e in
    ap (λ k. k ∷ c) o.0 ∙ ap (λ ks. j ∷ ks) (listed_same (n + 1) c d hc.1 hd.1 (omega arith) o.1)
