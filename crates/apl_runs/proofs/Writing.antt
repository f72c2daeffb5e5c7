-- Lines that are written one after the other.
use Rattle.std.proofs.Common.{◌≡◌, ℕ, Bool, List, [], ◌∷◌, ◌++◌, drop, take, ap, ◌∙◌, sym, refl, append_assoc, length, get_or, subst, ◌+◌, ◌<◌}
use Rattle.std.specs.Prelude.{IsTrue, Result, Ok, Err, encode_utf8}
use Rattle.std.proofs.lemmas.List.{take_more, take-append-drop, append-nil}
use Rattle.std.proofs.lemmas.Str.{encodes-append}
use Rattle.apl_charset.specs.Text.{bytes}
use Rattle.apl_machine_state.specs.declared.output.OutLine.{OutLine}
use Rattle.apl_devices.specs.Devices.{Wrote, Extends}
use Rattle.apl_devices.proofs.Writing.{wrote-none, wrote-all, wrote-more, wrote-take, extends-wrote, extends-none, extends-first, extends-second, extends-rest}
use Rattle.apl_runs.specs.Output.{written, labelled}
use Rattle.apl_runs.specs.Runs.{Writes}
use Rattle.apl_runs.specs.declared.runs.RunError.{RunError}

-- a text is written behind another
pub writes-second : {A : Type 0} (result : Result A RunError) (first second : List ℕ) (tells : Bool) (old mid new : List ℕ) → (IsTrue tells → mid ≡ old ++ first) →
    Writes result second tells mid new → Writes result (first ++ second) tells old new
writes-second (Ok x) first second tells old mid new e h =
    λ t. h t ∙ ap (λ (m : List ℕ). m ++ second) (e t) ∙ append_assoc old first second
writes-second (Err e) first second tells old mid new f h = (h.0, λ t. extends-second old mid new first second (f t) (h.1 t))

-- writing the first of two texts has failed
pub writes-first : (e : RunError) (first second : List ℕ) (tells : Bool) (old new : List ℕ) → Writes {A = Unit {0}} (Err e) first tells old new → Writes {A = Unit {0}} (Err e) (first ++ second) tells old new
writes-first e first second tells old new h = (h.0, λ t. extends-first old new first second (h.1 t))

-- a character more of a text
pub text-more : (old out new text : List ℕ) (i x c : ℕ) → i < length text → out ≡ old ++ bytes (take i text) → new ≡ out ++ encode_utf8 c → c ≡ x → x ≡ get_or text i x →
    new ≡ old ++ bytes (take (i + 1) text)
text-more old out new text i x c within so_far grown same at =
    let more : take (i + 1) text ≡ take i text ++ get_or text i x ∷ [] = take_more text i x within in
    let spelled : bytes (take i text) ++ encode_utf8 c ≡ bytes (take (i + 1) text) =
    rw (more, encodes-append (take i text) (get_or text i x ∷ []), ← at, same) (ap (λ (t : List ℕ). bytes (take i text) ++ t) (sym (append-nil _))) in
    grown ∙ ap (λ (o : List ℕ). o ++ encode_utf8 c) so_far ∙ append_assoc old (bytes (take i text)) (encode_utf8 c) ∙ ap (λ (b : List ℕ). old ++ b) spelled

-- lines behind no label
pub labelled-none : (lines : List OutLine) → labelled [] lines ≡ written lines
labelled-none [] = refl
labelled-none (line ∷ lines) = ap (λ (rest : List ℕ). bytes line.text ++ 10 ∷ rest) (labelled-none lines)

-- lines, and others after them
pub labelled-append : (label : List ℕ) (lines more : List OutLine) → labelled label (lines ++ more) ≡ labelled label lines ++ labelled label more
labelled-append label [] more = refl
labelled-append label (line ∷ lines) more =
    ap (λ (rest : List ℕ). label ++ bytes line.text ++ 10 ∷ rest) (labelled-append label lines more)
    ∙ sym (append_assoc (label ++ bytes line.text) (10 ∷ labelled label lines) (labelled label more))

-- the first lines, and the rest
pub labelled-split : (label : List ℕ) (n : ℕ) (lines : List OutLine) → labelled label lines ≡ labelled label (take n lines) ++ labelled label (drop n lines)
labelled-split label n lines = ap (labelled label) (sym (take-append-drop n lines)) ∙ labelled-append label (take n lines) (drop n lines)

-- the first of the lines that are left are written
pub wrote-lines : (label old mid new text : List ℕ) (lines left prefix rest : List OutLine) (n : ℕ) → prefix ≡ take n left → rest ≡ drop n left →
    Wrote old mid (labelled label lines) (labelled label left) → text ≡ labelled label prefix → new ≡ mid ++ text → Wrote old new (labelled label lines) (labelled label rest)
wrote-lines label old mid new text lines left prefix rest n first others w spelled e =
    wrote-more old mid new (labelled label lines) (labelled label left) (labelled label rest) w (record {
      prefix = labelled label prefix;
      spelled = labelled-split label n left ∙ ap (λ (f : List OutLine). labelled label f ++ labelled label (drop n left)) (sym first)
          ∙ ap (λ (r : List OutLine). labelled label prefix ++ labelled label r) (sym others);
      added = e ∙ ap (λ (t : List ℕ). mid ++ t) spelled;
    })

-- a prefix of the first of the lines that are left
pub extends-lines : (label old mid new text : List ℕ) (lines left prefix : List OutLine) (n : ℕ) → prefix ≡ take n left →
    Wrote old mid (labelled label lines) (labelled label left) → text ≡ labelled label prefix → Extends mid new text → Extends old new (labelled label lines)
extends-lines label old mid new text lines left prefix n first w spelled e =
    extends-rest old mid new (labelled label lines) (labelled label left) w
    (subst (λ (t : List ℕ). Extends mid new t) (sym (labelled-split label n left ∙ ap (λ (f : List OutLine). labelled label f ++ labelled label (drop n left)) (sym first)))
    (extends-first mid new (labelled label prefix) (labelled label (drop n left)) (subst (λ (t : List ℕ). Extends mid new t) spelled e)))

pub ruleset writing = (wrote-none, wrote-all, wrote-more, wrote-take, extends-wrote, extends-none, extends-first, extends-second, wrote-lines, extends-lines)

pub ruleset unlabelled = (labelled-none)
