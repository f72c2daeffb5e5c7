-- Output without stop reports.
use Rattle.std.proofs.Common.{◌≡◌, ℕ, List, [], ◌∷◌, ◌++◌, Bool, true, false, ap, ◌∙◌, refl}
use Rattle.std.specs.Prelude.{if◌then◌else◌, not}
use Rattle.apl_defn.specs.Definitions.{Text, Definition}
use Rattle.apl_machine_state.specs.declared.output.LineKind.{LineKind}
use Rattle.apl_machine_state.specs.declared.output.OutLine.{OutLine}
use Rattle.apl_machine_state.specs.Reports.{lines_of}
use Rattle.apl_machine_state.specs.State.{stop_report}
use Rattle.apl_resume.specs.Cut.{reports_stop, plain}

-- none of these lines reports a stop
abbrev pub IsPlain : List OutLine → Type 0
IsPlain lines = plain lines ≡ lines

pub append-nil : (xs : List OutLine) → xs ++ [] ≡ xs
append-nil [] = refl
append-nil (x ∷ xs) = ap (λ (ys : List OutLine). x ∷ ys) (append-nil xs)

plain-front : (b : Bool) (l : OutLine) (xs ys : List OutLine) → (if not b then l ∷ (xs ++ ys) else (xs ++ ys)) ≡ (if not b then l ∷ xs else xs) ++ ys
plain-front true l xs ys = refl
plain-front false l xs ys = refl

plain-append : (xs ys : List OutLine) → plain (xs ++ ys) ≡ plain xs ++ plain ys
plain-append [] ys = refl
plain-append (l ∷ xs) ys = ap (λ (zs : List OutLine). if not (reports_stop l.kind) then l ∷ zs else zs) (plain-append xs ys) ∙ plain-front (reports_stop l.kind) l (plain xs) (plain ys)

pub plain-of : (kind : LineKind) (texts : List Text) → reports_stop kind ≡ false → IsPlain (lines_of kind texts)
plain-of kind [] h = refl
plain-of kind (text ∷ texts) h =
    let line : OutLine = record { text = text; kind = kind } in
    ap (λ (b : Bool). if not b then line ∷ plain (lines_of kind texts) else plain (lines_of kind texts)) h
    ∙ ap (λ (zs : List OutLine). line ∷ zs) (plain-of kind texts h)

pub plain-both : (xs ys : List OutLine) → IsPlain xs → IsPlain ys → IsPlain (xs ++ ys)
plain-both xs ys h g = plain-append xs ys ∙ ap (λ (zs : List OutLine). zs ++ plain ys) h ∙ ap (λ (zs : List OutLine). xs ++ zs) g

-- such lines stay
pub plain-more : (xs lines : List OutLine) → IsPlain lines → plain (xs ++ lines) ≡ plain xs ++ lines
plain-more xs lines h = plain-append xs lines ∙ ap (λ (zs : List OutLine). plain xs ++ zs) h

-- a stop report goes
pub plain-stop : (xs lines : List OutLine) (d : Definition) (n : ℕ) → IsPlain lines → plain (xs ++ (lines ++ stop_report d n ∷ [])) ≡ plain xs ++ lines
plain-stop xs lines d n h =
    plain-append xs (lines ++ stop_report d n ∷ [])
    ∙ ap (λ (zs : List OutLine). plain xs ++ zs) (plain-append lines (stop_report d n ∷ []) ∙ append-nil (plain lines) ∙ h)
