-- Definitions of a file.
use Rattle.std.proofs.Common.{◌≡◌, ℕ, Bool, false, List, ◌∷◌, Result, Ok, Some, sym, ap, ◌∙◌, subst}
use Rattle.std.specs.Prelude.{IsTrue, slice_get}
use Rattle.apl_charset.specs.Text.{IsLine}
use Rattle.apl_charset.proofs.Unique.{one_text}
use Rattle.apl_tokens.proofs.Answered.{spelled_answer, answer_spells}
use Rattle.apl_defn.specs.Definitions.{Text, Definition}
use Rattle.apl_defn.specs.Defining.{IsDefined, defined_of}
use Rattle.apl_defn.specs.Listing.{canonical}
use Rattle.apl_defn.specs.declared.error.DefnError.{DefnError}
use Rattle.apl_defn.proofs.Defined as defined
use Rattle.apl_defn.proofs.Headings.{TokenLaws}
use Rattle.apl_saved.specs.Spelled.{IsDefinitionOf, Pairwise}
use Rattle.apl_loading.proofs.Lists.{one_list}

pub laws : TokenLaws
laws = record { spelled = spelled_answer; spells = answer_spells }

pub texts_of : (head : List ℕ) (texts : List (List ℕ)) (d : Definition) → IsDefinitionOf head texts d → Pairwise IsLine (head ∷ texts) (canonical d.header ∷ d.lines)
texts_of head texts d g = (g.header, g.lines)

-- the texts of a definition define it
pub defines : (head : List ℕ) (texts : List (List ℕ)) (ts : List Text) (d : Definition) → Pairwise IsLine (head ∷ texts) ts → IsDefinitionOf head texts d × IsDefined d → defined_of ts ≡ Ok d
defines head texts ts d p g = ap defined_of (one_list IsLine one_text (head ∷ texts) ts (canonical d.header ∷ d.lines) p (texts_of head texts d g.0)) ∙ defined.again laws d g.1

pub ok_is : (d e : Definition) → ◌≡◌ {A = Result Definition DefnError} (Ok d) (Ok e) → d ≡ e
ok_is d e h = cc

pub one_definition : (head : List ℕ) (texts : List (List ℕ)) (d e : Definition) → IsDefinitionOf head texts d × IsDefined d → IsDefinitionOf head texts e × IsDefined e → d ≡ e
one_definition head texts d e g h =
    let ts = canonical d.header ∷ d.lines in
    ok_is d e (sym (defined.again laws d g.1) ∙ defines head texts ts e (texts_of head texts d g.0) h)

-- where they are no texts, there is no definition
pub no_texts : (head : List ℕ) (texts : List (List ℕ)) → ((ts : List Text) → ¬ Pairwise IsLine (head ∷ texts) ts) → (d : Definition) → ¬ (IsDefinitionOf head texts d × IsDefined d)
no_texts head texts none d g = none (canonical d.header ∷ d.lines) (texts_of head texts d g.0)

-- where these define nothing, there is none
pub no_definition : (head : List ℕ) (texts : List (List ℕ)) (ts : List Text) → Pairwise IsLine (head ∷ texts) ts → ((d : Definition) → ¬ (defined_of ts ≡ Ok d)) → (d : Definition) → ¬ (IsDefinitionOf head texts d × IsDefined d)
no_definition head texts ts p none d g = none d (defines head texts ts d p g)

-- what they define under its canonical header is the definition
pub is_definition : (head : List ℕ) (texts : List (List ℕ)) (ts : List Text) (d : Definition) → Pairwise IsLine (head ∷ texts) ts → defined_of ts ≡ Ok d → slice_get ts 0 ≡ Some (canonical d.header) → IsDefinitionOf head texts d × IsDefined d
is_definition head texts ts d p e f =
    let h = (defined.read laws ts d e).headed in
    let q : slice_get (h.first ∷ d.lines) 0 ≡ Some (canonical d.header) = ap (λ us. slice_get us 0) (sym h.lines_are) ∙ f in
    let s : h.first ≡ canonical d.header = first_is h.first d.lines (canonical d.header) q in
    let g = subst (Pairwise IsLine (head ∷ texts)) h.lines_are p in
    (record { header = subst (IsLine head) s g.0; lines = g.1 }, (h.first, subst (λ us. defined_of us ≡ Ok d) h.lines_are e))
  where
    first_is : (first : Text) (rest : List Text) (t : Text) → slice_get (first ∷ rest) 0 ≡ Some t → first ≡ t
    first_is first rest t h = cc

-- what they define under another header is none
pub not_headed : (head : List ℕ) (texts : List (List ℕ)) (ts : List Text) (d : Definition) → Pairwise IsLine (head ∷ texts) ts → defined_of ts ≡ Ok d → ¬ (slice_get ts 0 ≡ Some (canonical d.header)) → (x : Definition) → ¬ (IsDefinitionOf head texts x × IsDefined x)
not_headed head texts ts d p e other x g =
    let same : ts ≡ canonical x.header ∷ x.lines = one_list IsLine one_text (head ∷ texts) ts (canonical x.header ∷ x.lines) p (texts_of head texts x g.0) in
    let k : d ≡ x = ok_is d x (sym e ∙ defines head texts ts x p g) in
    other (ap (λ us. slice_get us 0) same ∙ ap (λ (y : Definition). Some (canonical y.header)) (sym k))

pub not_true : (b : Bool) → b ≡ false → IsTrue b → ⊥
not_true b e h = cc

pub no_truth : IsTrue false → ⊥
no_truth h = cc
