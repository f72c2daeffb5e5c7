-- A text has one row of pieces, or one break.
use Rattle.std.proofs.Common.{◌≡◌, ◌≢◌, ℕ, ◌+◌, true, false, List, [], ◌∷◌, ◌++◌, length, drop, Ok, Err, refl, sym, ap, subst, ◌∙◌, arith}
use Rattle.std.proofs.lemmas.List.{drop_at, append-nil}
use Rattle.apl_tokens.specs.declared.class.Class.{Class}
use Rattle.apl_tokens.specs.declared.class.Class.TheVariants as class
use Rattle.apl_tokens.specs.declared.token.Kind.{Kind}
use Rattle.apl_tokens.specs.declared.token.Token.{Token}
use Rattle.apl_tokens.specs.declared.place.Place.{Place}
use Rattle.apl_tokens.specs.declared.place.Place.TheVariants.{Start}
use Rattle.apl_tokens.specs.declared.reading.Fault.{Fault}
use Rattle.apl_tokens.specs.declared.reading.Run.TheVariants as run
use Rattle.apl_tokens.specs.declared.line.TokenError.{TokenError}
use Rattle.apl_tokens.specs.declared.line.TokenError.TheVariants.{Quote, Unbalanced, Stray, Limit, TooLong, Memory}
use Rattle.apl_tokens.specs.Characters.{class_of, is_blank}
use Rattle.apl_tokens.specs.Spelling.{class_at, all_blank, next_place, Step, Row}
use Rattle.apl_tokens.specs.Reading.{Reading, run_len, next_of, next_at}
use Rattle.apl_tokens.specs.Lines.{place_after, BreaksAt, IsBreak, ArePieces, Breaks}
use Rattle.apl_tokens.specs.declared.reading.Fault.TheVariants as fault
use Rattle.apl_tokens.proofs.Classes.{no_class}
use Rattle.apl_tokens.proofs.Runs.{run_exact}
use Rattle.apl_tokens.proofs.Steps.{word_of}
use Rattle.apl_tokens.proofs.Sound.{ok_parts}
use Rattle.apl_tokens.proofs.Complete.{spelled_read}

ok_starts-of : (k : Class) (place : Place) (c : ℕ) (rest : List ℕ) (x : Kind × ℕ) → next_of k place c rest ≡ Ok x → is_blank k ≡ false
unfolding next_of
ok_starts-of class.Blank place c rest x e = absurd cc
ok_starts-of _ place c rest x e = refl

ok_starts : (place : Place) (rest : List ℕ) (x : Kind × ℕ) → next_at place rest ≡ Ok x → is_blank (class_at rest) ≡ false
unfolding next_at
ok_starts place [] x e = absurd cc
ok_starts place (c ∷ rest) x e = ok_starts-of (class_of c) place c rest x e

-- what follows the blanks
after_blanks : (text gap rest : List ℕ) → text ≡ gap ++ rest → all_blank gap ≡ true → is_blank (class_at rest) ≡ false → rest ≡ word_of text
after_blanks text gap rest parts blank starts =
    let run : run_len run.Blanks (gap ++ rest) ≡ length gap = run_exact (λ c. is_blank (class_of c)) gap rest blank starts in
    rw (parts, run) (sym (drop_at gap rest (length gap) refl))

-- a step, as it is read
record Reads (end : ℕ) (place : Place) (t : Token) (text after : List ℕ) : Type 0 where
  len : ℕ
  read : next_at place (word_of text) ≡ Ok (t.kind, len)
  rest : after ≡ drop len (word_of text)
  at : t.at + length (word_of text) ≡ end

step_reads : (end : ℕ) (place : Place) (t : Token) (text after : List ℕ) → Step end place t text after → Reads end place t text after
step_reads end place t text after s =
    let read = spelled_read t.kind s.word after place s.spelled s.ends s.stands in
    let word : s.word ++ after ≡ word_of text = after_blanks text s.gap (s.word ++ after) s.parts s.blank (ok_starts place (s.word ++ after) _ read) in
    record {
      len = length s.word;
      read = ap (λ (w : List ℕ). next_at place w) (sym word) ∙ read;
      rest = sym (drop_at s.word after (length s.word) refl) ∙ ap (λ (w : List ℕ). drop (length s.word) w) word;
      at = ap (λ (w : List ℕ). t.at + length w) (sym word) ∙ s.at;
    }

token_is : (t u : Token) → t.kind ≡ u.kind → t.at ≡ u.at → t ≡ u
token_is t u p q = ap (λ (k : Kind). record { kind = k; at = t.at }) p ∙ ap (λ (n : ℕ). record { kind = u.kind; at = n }) q

reads_once : (end : ℕ) (place : Place) (t u : Token) (text a b : List ℕ) → Reads end place t text a → Reads end place u text b → (t ≡ u) × (a ≡ b)
reads_once end place t u text a b r s =
    let same = ok_parts t.kind u.kind r.len s.len (sym r.read ∙ s.read) in
    (token_is t u same.0 (omega (arith, r.at, s.at)), r.rest ∙ ap (λ (n : ℕ). drop n (word_of text)) same.1 ∙ sym s.rest)

-- nothing goes on from here
abbrev pub Stuck : ℕ → Place → List ℕ → Type 0
Stuck end place rest = (t : Token) (after : List ℕ) → Step end place t rest after → ⊥

pub one_row : (end : ℕ) (place : Place) (ts us : List Token) (text r s : List ℕ) → Row end place ts text r → Row end place us text s → Stuck end (place_after place ts) r → Stuck end (place_after place us) s → (ts ≡ us) × (r ≡ s)
one_row end place [] [] text r s p q stuck stuck' = (refl, sym p ∙ q)
one_row end place [] (u ∷ us) text r s p q stuck stuck' = absurd (stuck u q.0 (subst (λ (x : List ℕ). Step end place u x q.0) p q.1))
one_row end place (t ∷ ts) [] text r s p q stuck stuck' = absurd (stuck' t p.0 (subst (λ (x : List ℕ). Step end place t x p.0) q p.1))
one_row end place (t ∷ ts) (u ∷ us) text r s p q stuck stuck' =
    let first : (t ≡ u) × (p.0 ≡ q.0) = reads_once end place t u text p.0 q.0 (step_reads end place t text p.0 p.1) (step_reads end place u text q.0 q.1) in
    let row : Row end (next_place place t.kind) us p.0 s = subst (λ (x : Token). Row end (next_place place x.kind) us p.0 s) (sym first.0) (subst (λ (x : List ℕ). Row end (next_place place u.kind) us x s) (sym first.1) q.2) in
    let ends : Stuck end (place_after (next_place place t.kind) us) s = subst (λ (x : Token). Stuck end (place_after (next_place place x.kind) us) s) (sym first.0) stuck' in
    let others : (ts ≡ us) × (r ≡ s) = one_row end (next_place place t.kind) ts us p.0 r s p.2 row stuck ends in
    let all : t ∷ ts ≡ u ∷ us = cc (first.0, others.0) in
    (all, others.1)

-- where nothing goes on
blank_stuck : (end : ℕ) (place : Place) (rest : List ℕ) → all_blank rest ≡ true → Stuck end place rest
unfolding next_at
blank_stuck end place rest blank t after s =
    let r = step_reads end place t rest after s in
    let none : [] ≡ word_of rest = after_blanks rest rest [] (sym (append-nil rest)) blank (rw no_class refl) in
    let empty : next_at place [] ≡ Ok (t.kind, r.len) = ap (λ (w : List ℕ). next_at place w) none ∙ r.read in
    absurd cc

break_stuck : (end : ℕ) (place : Place) (rest : List ℕ) (f : Fault) (column : ℕ) → BreaksAt end place rest f column → Stuck end place rest
break_stuck end place rest f column b t after s =
    let r = step_reads end place t rest after s in
    let word : b.rest ≡ word_of rest = after_blanks rest b.gap b.rest b.parts b.blank b.starts in
    let broken : next_at place (word_of rest) ≡ Err (f, b.after) = ap (λ (w : List ℕ). next_at place w) (sym word) ∙ b.breaks in
    absurd (let read = r.read in cc)

stuck_at : (end : ℕ) (place : Place) (rest : List ℕ) (e : TokenError) → IsBreak end place rest e → e ≢ Memory → Stuck end place rest
stuck_at end place rest (Quote column) b ne = break_stuck end place rest fault.Quote column b
stuck_at end place rest (Stray column) b ne = break_stuck end place rest fault.Stray column b
stuck_at end place rest (Limit column) b ne = break_stuck end place rest fault.Limit column b
stuck_at end place rest (Unbalanced column) b ne = absurd b
stuck_at end place rest (TooLong column) b ne = absurd b
stuck_at end place rest Memory b ne = absurd (ne refl)

pub one_pieces : (text : List ℕ) (ts us : List Token) → ArePieces text ts → ArePieces text us → ts ≡ us
one_pieces text ts us p q = (one_row _ Start ts us text p.rest q.rest p.row q.row (blank_stuck _ _ p.rest p.blank) (blank_stuck _ _ q.rest q.blank)).0

-- a break has one word, and is no blank
break_word : (end : ℕ) (place : Place) (rest : List ℕ) (f : Fault) (column : ℕ) → (b : BreaksAt end place rest f column) → (b.rest ≡ word_of rest) × (next_at place (word_of rest) ≡ Err (f, b.after))
break_word end place rest f column b =
    let word : b.rest ≡ word_of rest = after_blanks rest b.gap b.rest b.parts b.blank b.starts in
    (word, ap (λ (w : List ℕ). next_at place w) (sym word) ∙ b.breaks)

blank_break : (end : ℕ) (place : Place) (rest : List ℕ) (f : Fault) (column : ℕ) → all_blank rest ≡ true → BreaksAt end place rest f column → ⊥
blank_break end place rest f column blank b =
    let none : [] ≡ word_of rest = after_blanks rest rest [] (sym (append-nil rest)) blank (rw no_class refl) in
    omega (arith, b.some, ap length (break_word end place rest f column b).0, ap length none)

blank_or_break : (end : ℕ) (place : Place) (rest : List ℕ) (e : TokenError) → all_blank rest ≡ true → IsBreak end place rest e → e ≡ Memory
blank_or_break end place rest (Quote column) blank b = absurd (blank_break end place rest fault.Quote column blank b)
blank_or_break end place rest (Stray column) blank b = absurd (blank_break end place rest fault.Stray column blank b)
blank_or_break end place rest (Limit column) blank b = absurd (blank_break end place rest fault.Limit column blank b)
blank_or_break end place rest (Unbalanced column) blank b = absurd b
blank_or_break end place rest (TooLong column) blank b = absurd b
blank_or_break end place rest Memory blank b = refl

abbrev err : Fault → ℕ → Reading
err f n = Err (f, n)

err_parts : (f g : Fault) (m n : ℕ) → err f m ≡ err g n → (f ≡ g) × (m ≡ n)
err_parts f g m n e =
    let pair : (x y : Fault × ℕ) → x ≡ y → (x.0 ≡ y.0) × (x.1 ≡ y.1) = λ x y p. (ap (λ (z : Fault × ℕ). z.0) p, ap (λ (z : Fault × ℕ). z.1) p) in
    let same : (f, m) ≡ (g, n) = cc in
    pair (f, m) (g, n) same

-- two breaks of what is left
same_break : (end : ℕ) (place : Place) (rest : List ℕ) (f g : Fault) (m n : ℕ) → BreaksAt end place rest f m → BreaksAt end place rest g n → (f ≡ g) × (m ≡ n)
same_break end place rest f g m n b d =
    let p = break_word end place rest f m b in
    let q = break_word end place rest g n d in
    let same = err_parts f g b.after d.after (sym p.1 ∙ q.1) in
    (same.0, omega (arith, b.column_is, d.column_is, ap length p.0, ap length q.0, same.1))

-- the fault and the column of a break
abbrev broken : Fault → ℕ → TokenError
broken fault.Quote column = Quote column
broken fault.Stray column = Stray column
broken fault.Limit column = Limit column

record Broken (end : ℕ) (place : Place) (rest : List ℕ) (e : TokenError) : Type 0 where
  fault : Fault
  column : ℕ
  breaks : BreaksAt end place rest fault column
  is : e ≡ broken fault column

as_broken : (end : ℕ) (place : Place) (rest : List ℕ) (e : TokenError) → IsBreak end place rest e → e ≢ Memory → Broken end place rest e
as_broken end place rest (Quote column) b ne = record { fault = fault.Quote; column = column; breaks = b; is = refl }
as_broken end place rest (Stray column) b ne = record { fault = fault.Stray; column = column; breaks = b; is = refl }
as_broken end place rest (Limit column) b ne = record { fault = fault.Limit; column = column; breaks = b; is = refl }
as_broken end place rest (Unbalanced column) b ne = absurd b
as_broken end place rest (TooLong column) b ne = absurd b
as_broken end place rest Memory b ne = absurd (ne refl)

one_break_at : (end : ℕ) (place : Place) (rest : List ℕ) (d e : TokenError) → IsBreak end place rest d → IsBreak end place rest e → d ≢ Memory → e ≢ Memory → d ≡ e
one_break_at end place rest d e b c nd ne =
    let p = as_broken end place rest d b nd in
    let q = as_broken end place rest e c ne in
    let same = same_break end place rest p.fault q.fault p.column q.column p.breaks q.breaks in
    p.is ∙ ap (λ (f : Fault). broken f p.column) same.0 ∙ ap (λ (n : ℕ). broken q.fault n) same.1 ∙ sym q.is

-- a text of pieces doesn't break
pub pieces_or_break : (text : List ℕ) (ts : List Token) (e : TokenError) → ArePieces text ts → Breaks text e → e ≢ Memory → ⊥
pieces_or_break text ts e p b ne =
    let same = one_row _ Start ts b.pieces text p.rest b.rest p.row b.row (blank_stuck _ _ p.rest p.blank) (stuck_at _ _ b.rest e b.breaks ne) in
    ne (blank_or_break _ _ b.rest e (subst (λ (x : List ℕ). all_blank x ≡ true) same.1 p.blank) b.breaks)

pub one_break : (text : List ℕ) (d e : TokenError) → Breaks text d → Breaks text e → d ≢ Memory → e ≢ Memory → d ≡ e
one_break text d e b c nd ne =
    let same = one_row _ Start b.pieces c.pieces text b.rest c.rest b.row c.row (stuck_at _ _ b.rest d b.breaks nd) (stuck_at _ _ c.rest e c.breaks ne) in
    let there : IsBreak (length text + 1) (place_after Start b.pieces) b.rest e =
    subst (λ (x : List ℕ). IsBreak (length text + 1) (place_after Start b.pieces) x e) (sym same.1) (subst (λ (x : List Token). IsBreak (length text + 1) (place_after Start x) c.rest e) (sym same.0) c.breaks) in
    one_break_at _ _ b.rest d e b.breaks there nd ne
