-- Files, their trees and their bytes.
use Rattle.std.proofs.Common.{◌≡◌, ℕ, List, Option, Some, Result, Ok, Err, sym, ap, subst, ◌∙◌}
use Rattle.std.specs.Prelude.{IfErr, IsErrAnd, MatchResult}
use Rattle.serde_json.specs.Data.{Data}
use Rattle.apl_workspace_file.specs.Trees.{tree_of}
use Rattle.apl_workspace_file.specs.Fitting.{Fits}
use Rattle.apl_workspace_file.specs.Json.{IsJson}
use Rattle.apl_workspace_file.specs.Reading.{file_of}
use Rattle.apl_workspace_file.specs.Refusals.{refusal_of}
use Rattle.apl_workspace_file.specs.declared.error.ReadError.{ReadError}
use Rattle.apl_workspace_file.specs.declared.error.ReadError.TheVariants as refusal
use Rattle.apl_workspace_file.specs.declared.error.TreeError.{TreeError}
use Rattle.apl_workspace_file.specs.declared.error.TreeError.TheVariants.{Form, Memory}
use Rattle.apl_workspace_file.specs.declared.fields.File.{File}
use Rattle.apl_workspace_file.proofs.Codecs.{IsCodec, ok_is}
use Rattle.apl_workspace_file.proofs.Forms.{file_codec}

abbrev some : Data → Option Data
some d = Some d

some_is : (x y : Data) → some x ≡ some y → x ≡ y
some_is x y e = cc

-- bytes are the JSON of one tree
pub one_tree : (bytes : List ℕ) (d e : Data) → IsJson bytes d → IsJson bytes e → d ≡ e
one_tree bytes d e json other = some_is d e (sym json.1 ∙ other.1)

-- what is found has the tree
pub is_found : (bytes : List ℕ) (d : Data) (f : File) → IsJson bytes d → file_of d ≡ Ok f → Fits f × IsJson bytes (tree_of f)
is_found bytes d f json e = let t = IsCodec.takes file_codec d f e in (t.1, subst (λ (x : Data). IsJson bytes x) t.0 json)

-- and no other file has it
pub is_only : (bytes : List ℕ) (d : Data) (g f : File) → IsJson bytes d → file_of d ≡ Ok g → Fits f → IsJson bytes (tree_of f) → g ≡ f
is_only bytes d g f json e fits other =
    let same : d ≡ tree_of f = one_tree bytes d (tree_of f) json other in
    ok_is g f (sym e ∙ ap file_of same ∙ IsCodec.again file_codec f fits)

-- no file has a tree that is refused
pub has_no_file : (d : Data) → file_of d ≡ Err Form → (f : File) → Fits f → ¬ (tree_of f ≡ d)
has_no_file d refused f fits same = clash f (sym (IsCodec.again file_codec f fits) ∙ ap file_of same ∙ refused)
  where
    clash : (g : File) → ¬ (Ok g ≡ Err Form)
    clash g e = absurd cc

-- ---- what a refused tree tells of the bytes

abbrev IsRefused : TreeError → Result File ReadError → Type 0
IsRefused e r = IsErrAnd r (λ x. x ≡ refusal_of e)

form_is_other : ¬ (Form ≡ Memory)
form_is_other e = absurd cc

pub form_refused : (bytes : List ℕ) (d : Data) (e : TreeError) (r : Result File ReadError) → IsJson bytes d → (¬ (e ≡ Memory) → file_of d ≡ Err e) → IsRefused e r
    → IfErr r (λ x. x ≡ refusal.Form → (d : Data) × IsJson bytes d × ((f : File) → Fits f → ¬ (tree_of f ≡ d)))
form_refused bytes d e (Ok f) json h is = absurd is
form_refused bytes d Form (Err x) json h is = λ form. (d, json, has_no_file d (h form_is_other))
form_refused bytes d Memory (Err x) json h is = λ form. absurd cc

pub complete_refused : (bytes : List ℕ) (d : Data) (e : TreeError) (r : Result File ReadError) (f : File) → IsJson bytes d → (¬ (e ≡ Memory) → file_of d ≡ Err e) → IsRefused e r
    → Fits f → IsJson bytes (tree_of f) → MatchResult r (λ g. g ≡ f) (λ x. x ≡ refusal.Memory)
complete_refused bytes d e (Ok g) f json h is fits other = absurd is
complete_refused bytes d Form (Err x) f json h is fits other = absurd (has_no_file d (h form_is_other) f fits (one_tree bytes (tree_of f) d other json))
complete_refused bytes d Memory (Err x) f json h is fits other = is
