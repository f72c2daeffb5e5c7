-- A line has one answer.
use Rattle.std.proofs.Common.{◌≡◌, ◌≢◌, ℕ, ◌+◌, true, false, List, [], ◌∷◌, ◌++◌, length, take, drop, refl, sym, ap, subst, ◌∙◌, append_assoc, arith}
use Rattle.std.specs.Prelude.{encode_utf8, Result, Ok, Err, IfErr}
use Rattle.std.specs.Str.{IsValidUpTo}
use Rattle.std.proofs.lemmas.List.{append-nil, take_at, take-append-drop, length-append, length-drop, length-take}
use Rattle.std.proofs.lemmas.Str.{encode_same, IsUtf8-append, IsUtf8-encode, length-encode, len_utf8_bounds}
use Rattle.std.proofs.Math.Seq.{take-add}
use Rattle.apl_charset.specs.Set.{is_member}
use Rattle.apl_charset.specs.declared.line.CharFault.{CharFault}
use Rattle.apl_charset.specs.declared.line.CharFault.TheVariants.{NotUtf8, NotInSet, Memory}
use Rattle.apl_charset.specs.Text.{IsText, bytes, IsLine, BeginsBadly, BeginsOutside, FaultAt, IsFault, IsOutside}
use Rattle.apl_charset.proofs.Members.{and_left, and_right, member_scalar}

-- no character of the set begins what is left
abbrev pub Stops : List ℕ → Type 0
Stops rest = (c : ℕ) (after : List ℕ) → is_member c ≡ true → rest ≢ encode_utf8 c ++ after

char_has_bytes : (c : ℕ) (after : List ℕ) → [] ≢ encode_utf8 c ++ after
char_has_bytes c after e = omega (arith, ap length e, length-append (encode_utf8 c) after, length-encode c, (len_utf8_bounds c).0)

pub Stops-end : Stops []
Stops-end c after h e = char_has_bytes c after e

pub Stops-badly : (rest : List ℕ) → BeginsBadly rest → Stops rest
Stops-badly rest b c after h e = b.1 c after (member_scalar c h) e

pub Stops-outside : (rest : List ℕ) → BeginsOutside rest → Stops rest
Stops-outside rest b c after h e =
    let same : (b.0 ≡ c) × (b.1 ≡ after) = encode_same b.0 c b.1 after (sym b.4 ∙ e) in
    let out : is_member c ≡ false = subst (λ (x : ℕ). is_member x ≡ false) same.0 b.3 in
    absurd cc

abbrev pub Same : (a b r s : List ℕ) → Type 0
Same a b r s = (a ≡ b) × (r ≡ s)

-- of two texts that bytes begin with, neither going on, one is the other
pub same_prefix : (a b r s : List ℕ) → IsText a → IsText b → Stops r → Stops s → bytes a ++ r ≡ bytes b ++ s → Same a b r s
same_prefix [] [] r s ha hb hr hs e = (refl, e)
same_prefix [] (d ∷ b) r s ha hb hr hs e = absurd (hr d (bytes b ++ s) (and_left _ _ hb) (e ∙ append_assoc (encode_utf8 d) (bytes b) s))
same_prefix (c ∷ a) [] r s ha hb hr hs e = absurd (hs c (bytes a ++ r) (and_left _ _ ha) (sym e ∙ append_assoc (encode_utf8 c) (bytes a) r))
same_prefix (c ∷ a) (d ∷ b) r s ha hb hr hs e =
    let head : (c ≡ d) × (bytes a ++ r ≡ bytes b ++ s) = encode_same c d (bytes a ++ r) (bytes b ++ s) (sym (append_assoc (encode_utf8 c) (bytes a) r) ∙ e ∙ append_assoc (encode_utf8 d) (bytes b) s) in
    let tail : Same a b r s = same_prefix a b r s (and_right _ _ ha) (and_right _ _ hb) hr hs head.1 in
    let all : c ∷ a ≡ d ∷ b = cc (head.0, tail.0) in
    (all, tail.1)

whole : (line a : List ℕ) → IsLine line a → bytes a ++ [] ≡ line
whole line a h = append-nil (bytes a) ∙ h.spelled

pub one_text : (line a b : List ℕ) → IsLine line a → IsLine line b → a ≡ b
one_text line a b p q = (same_prefix a b [] [] p.in_set q.in_set Stops-end Stops-end (whole line a p ∙ sym (whole line b q))).0

never_empty : (Begins : List ℕ → Type 0) (line a : List ℕ) (at : ℕ) → ((rest : List ℕ) → Begins rest → Stops rest × (rest ≢ [])) → IsLine line a → FaultAt line at Begins → ⊥
never_empty Begins line a at stops p f =
    let s = stops f.rest f.begins in
    s.1 (sym (same_prefix a f.prefix [] f.rest p.in_set f.in_set Stops-end s.0 (whole line a p ∙ f.parts)).1)

badly_stops : (rest : List ℕ) → BeginsBadly rest → Stops rest × (rest ≢ [])
badly_stops rest b = (Stops-badly rest b, b.0)

outside_stops : (rest : List ℕ) → BeginsOutside rest → Stops rest × (rest ≢ [])
outside_stops rest b = (Stops-outside rest b, λ e. char_has_bytes b.0 b.1 (sym e ∙ b.4))

pub text_or_fault : (line a : List ℕ) (e : CharFault) → IsLine line a → IsFault line e → e ≡ Memory
text_or_fault line a (NotUtf8 at) p f = absurd (never_empty BeginsBadly line a at badly_stops p f)
text_or_fault line a (NotInSet at) p f = absurd (never_empty BeginsOutside line a at outside_stops p f)
text_or_fault line a Memory p f = refl

-- two faults stand at one place, with the same bytes after it
same_place : (B C : List ℕ → Type 0) (line : List ℕ) (m n : ℕ) → ((rest : List ℕ) → B rest → Stops rest × (rest ≢ [])) → ((rest : List ℕ) → C rest → Stops rest × (rest ≢ [])) → (f : FaultAt line m B) (g : FaultAt line n C) → (m ≡ n) × C f.rest
same_place B C line m n b c f g =
    let same = same_prefix f.prefix g.prefix f.rest g.rest f.in_set g.in_set (b f.rest f.begins).0 (c g.rest g.begins).0 (sym f.parts ∙ g.parts) in
    (sym f.before ∙ ap (λ (t : List ℕ). length (bytes t)) same.0 ∙ g.before, subst C (sym same.1) g.begins)

badly_and_outside : (rest : List ℕ) → BeginsBadly rest → BeginsOutside rest → ⊥
badly_and_outside rest b o = b.1 o.0 o.1 o.2 o.4

pub one_fault : (line : List ℕ) (d e : CharFault) → IsFault line d → IsFault line e → d ≢ Memory → e ≢ Memory → d ≡ e
one_fault line Memory e f g nd ne = absurd (nd refl)
one_fault line (NotUtf8 m) Memory f g nd ne = absurd (ne refl)
one_fault line (NotInSet m) Memory f g nd ne = absurd (ne refl)
one_fault line (NotUtf8 m) (NotUtf8 n) f g nd ne = ap (λ (k : ℕ). NotUtf8 k) (same_place BeginsBadly BeginsBadly line m n badly_stops badly_stops f g).0
one_fault line (NotInSet m) (NotInSet n) f g nd ne = ap (λ (k : ℕ). NotInSet k) (same_place BeginsOutside BeginsOutside line m n outside_stops outside_stops f g).0
one_fault line (NotUtf8 m) (NotInSet n) f g nd ne = absurd (badly_and_outside f.rest f.begins (same_place BeginsBadly BeginsOutside line m n badly_stops outside_stops f g).1)
one_fault line (NotInSet m) (NotUtf8 n) f g nd ne = absurd (badly_and_outside f.rest (same_place BeginsOutside BeginsBadly line m n outside_stops badly_stops f g).1 f.begins)

-- after the longest prefix that is UTF-8 no character begins
pub begins_badly : (line : List ℕ) (n : ℕ) → IsValidUpTo line n → BeginsBadly (drop n line)
begins_badly line n v = (
  λ e. omega (arith, ap length e, length-drop n line, v.short),
  λ c rest scalar e.
      let k = length (encode_utf8 c) in
      let own : take k (drop n line) ≡ encode_utf8 c = rw e (take_at (encode_utf8 c) rest k refl) in
      let longer : take (n + k) line ≡ take n line ++ encode_utf8 c = take-add n k line ∙ ap (λ (t : List ℕ). take n line ++ t) own in
      v.longest (n + k) (omega (arith, length-encode c, (len_utf8_bounds c).0)) (rw longer (IsUtf8-append _ _ v.front (IsUtf8-encode c scalar))),
)

-- a character outside the set that a prefix of the line has, the line has
longer : (line : List ℕ) (n at : ℕ) → FaultAt (take n line) at BeginsOutside → FaultAt line at BeginsOutside
longer line n at f = record {
  prefix = f.prefix;
  rest = f.rest ++ drop n line;
  in_set = f.in_set;
  parts = sym (take-append-drop n line) ∙ rw f.parts (append_assoc (bytes f.prefix) f.rest (drop n line));
  before = f.before;
  begins = (f.begins.0, f.begins.1 ++ drop n line, f.begins.2, f.begins.3, rw f.begins.4 (append_assoc (encode_utf8 f.begins.0) f.begins.1 (drop n line)));
}

pub front_fault : (line : List ℕ) (n : ℕ) (e : CharFault) → IsOutside (take n line) e → IsFault line e
front_fault line n (NotUtf8 at) h = absurd h
front_fault line n (NotInSet at) h = longer line n at h
front_fault line n Memory h = tt

pub ends_badly : (line text : List ℕ) (n : ℕ) → IsValidUpTo line n → IsLine (take n line) text → FaultAt line n BeginsBadly
ends_badly line text n v t = record {
  prefix = text;
  rest = drop n line;
  in_set = t.in_set;
  parts = sym (take-append-drop n line) ∙ ap (λ (x : List ℕ). x ++ drop n line) (sym t.spelled);
  before = ap length t.spelled ∙ omega (arith, length-take n line, v.short);
  begins = begins_badly line n v;
}

-- what fails at a line that is a text ran out of memory
pub only_memory : {A : Type 0} (line : List ℕ) (answer : Result A CharFault) → IfErr answer (λ e. IsFault line e) → (text : List ℕ) → IsLine line text → IfErr answer (λ e. e ≡ Memory)
only_memory line (Ok v) h text p = tt
only_memory line (Err e) h text p = text_or_fault line text e p h

-- the same of a text whose only faults are characters outside the set
pub only_memory_outside : {A : Type 0} (line : List ℕ) (answer : Result A CharFault) → IfErr answer (λ e. IsOutside line e) → (text : List ℕ) → IsLine line text → IfErr answer (λ e. e ≡ Memory)
only_memory_outside line (Ok v) h text p = tt
only_memory_outside line (Err (NotUtf8 at)) h text p = absurd h
only_memory_outside line (Err (NotInSet at)) h text p = text_or_fault line text (NotInSet at) p h
only_memory_outside line (Err Memory) h text p = refl
