-- The relation and the function say the same of a line.
use Rattle.std.proofs.Common.{◌≡◌, ◌≢◌, ℕ, Bool, true, false, ◌&&◌, cond, List, [], ◌∷◌, Option, Some, None, refl, sym, ap, ◌∙◌}
use Rattle.std.specs.Prelude.{Result, Ok, Err, IfOk, IfErr}
use Rattle.std.specs.declared.vec.Vec.{Vec}
use Rattle.std.specs.declared.alloc.Global.{Global}
use Rattle.std.specs.List.{list_all}
use Rattle.std.specs.Char.{IsScalar}
use Rattle.std.specs.Str.{IsUtf8, is_utf8, chars, all_scalars}
use Rattle.std.proofs.lemmas.Str.{IsUtf8-from_is_utf8, is_utf8-from_IsUtf8, chars_from_encodes, encodes-chars}
use Rattle.apl_charset.specs.Set.{is_member}
use Rattle.apl_charset.specs.Text.{IsText, bytes, IsLine, IsFault, IsOutside}
use Rattle.apl_charset.specs.Decoding.{decoded}
use Rattle.apl_charset.specs.declared.line.CharFault.{CharFault}
use Rattle.apl_charset.specs.declared.line.CharFault.TheVariants.{NotUtf8, NotInSet, Memory}
use Rattle.apl_charset.proofs.Members.{and_left, and_right, member_scalar}
use Rattle.apl_charset.proofs.Unique.{text_or_fault}

scalars_of : (text : List ℕ) → IsText text → all_scalars text ≡ true
scalars_of [] h = refl
scalars_of (c ∷ text) h =
    let first : IsScalar c = member_scalar c (and_left _ _ h) in
    let others : all_scalars text ≡ true = scalars_of text (and_right _ _ h) in
    rw (first, others) refl

utf8_of : (line text : List ℕ) → IsLine line text → IsUtf8 line
utf8_of line text l = (text, (scalars_of text l.in_set, l.spelled))

-- what is a text of the line is decoded
pub decoded_text : (line text : List ℕ) → IsLine line text → decoded line ≡ Some text
unfolding decoded
decoded_text line text l =
    let utf8 = utf8_of line text l in
    let same : text ≡ chars line = chars_from_encodes text line utf8 l.spelled in
    let in_set : list_all is_member (chars line) ≡ true = ap (λ (t : List ℕ). list_all is_member t) (sym same) ∙ l.in_set in
    rw (is_utf8-from_IsUtf8 line utf8, in_set) (ap (λ (t : List ℕ). Some t) (sym same))

abbrev some : List ℕ → Option (List ℕ)
some text = Some text

some_is : (a b : List ℕ) → some a ≡ some b → a ≡ b
some_is a b e = cc

decoded_case : (utf8 in_set : Bool) (own text : List ℕ) → cond (utf8 && in_set) (Some own) None ≡ Some text → (utf8 ≡ true) × (in_set ≡ true) × (own ≡ text)
decoded_case true true own text e = (refl, refl, some_is own text e)
decoded_case true false own text e = absurd cc
decoded_case false in_set own text e = absurd cc

-- what is decoded is the line's text
pub text_decoded : (line text : List ℕ) → decoded line ≡ Some text → IsLine line text
unfolding decoded
text_decoded line text e =
    let p = decoded_case (is_utf8 line) (list_all is_member (chars line)) (chars line) text e in
    record {
      in_set = ap (λ (t : List ℕ). list_all is_member t) (sym p.2) ∙ p.1;
      spelled = ap bytes (sym p.2) ∙ encodes-chars line (IsUtf8-from_is_utf8 line p.0);
    }

-- a line with a fault has no text
pub fault_decoded : (line : List ℕ) (e : CharFault) → IsFault line e → e ≢ Memory → decoded line ≡ None
fault_decoded line e f ne = by (decoded line) refl
  where
    by : (read : Option (List ℕ)) → decoded line ≡ read → decoded line ≡ None
    by None is = is
    by (Some text) is = absurd (ne (text_or_fault line text e (text_decoded line text is) f))

pub outside_decoded : (line : List ℕ) (e : CharFault) → IsOutside line e → e ≢ Memory → decoded line ≡ None
outside_decoded line (NotUtf8 at) h ne = absurd h
outside_decoded line (NotInSet at) h ne = fault_decoded line (NotInSet at) h ne
outside_decoded line Memory h ne = absurd (ne refl)

-- the same of what a function returned for the line, or for its own copy of it
pub found_decoded : (copy line : List ℕ) (result : Result (Vec ℕ Global) CharFault) → copy ≡ line → IfOk result (λ v. IsLine copy v.items) → IfOk result (λ v. decoded line ≡ Some v.items)
found_decoded copy line (Ok v) same h = ap decoded (sym same) ∙ decoded_text copy v.items h
found_decoded copy line (Err e) same h = tt

pub faults_decoded : (line : List ℕ) (result : Result (Vec ℕ Global) CharFault) → IfErr result (λ e. IsFault line e) → IfErr result (λ e. e ≢ Memory → decoded line ≡ None)
faults_decoded line (Ok v) h = tt
faults_decoded line (Err e) h = fault_decoded line e h

pub outsides_decoded : (copy line : List ℕ) (result : Result (Vec ℕ Global) CharFault) → copy ≡ line → IfErr result (λ e. IsOutside copy e) → IfErr result (λ e. e ≢ Memory → decoded line ≡ None)
outsides_decoded copy line (Ok v) same h = tt
outsides_decoded copy line (Err e) same h = λ ne. ap decoded (sym same) ∙ outside_decoded copy e h ne
