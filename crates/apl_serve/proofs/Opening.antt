-- What the text of a tree opens.
use Rattle.std.proofs.Common.{◌≡◌, ◌∙◌, ℕ, List, [], ◌∷◌, Option, Some, None, false, sym, ap, subst, refl}
use Rattle.std.specs.Prelude.{⊤, is_some, unwrap_or}
use Rattle.serde_json.specs.Data.{Data}
use Rattle.serde_json.specs.Find.{as_null}
use Rattle.serde_json.specs.Read.{read}
use Rattle.serde_json.proofs.OnLiterals.{serde_json_on_literals}
use Rattle.apl_kept.specs.Keeping.{BeginsWith}
use Rattle.apl_machine_state.specs.State.{State}
use Rattle.apl_workspace.specs.Saved.{IsSaved}
use Rattle.apl_workspace_file.specs.Json.{IsJson}
use Rattle.apl_serve.specs.Answers.{IsOpenedBy}
use Rattle.apl_serve.specs.declared.error.Refusal.{Refusal}
use Rattle.apl_serve.specs.declared.error.Refusal.TheVariants as refusal
use Rattle.apl_serve.specs.inside.Parts.{IsClosed, IsShut}

-- no bytes are no JSON
nothing_read : read [] ≡ None
unfolding serde_json_on_literals
nothing_read = refl

none_some : (tree : Data) → None ≡ Some tree → ⊥
none_some tree e = cc

pub opened_file : (bytes : List ℕ) (tree : Data) (s : State) → IsJson bytes tree → BeginsWith bytes s → IsSaved tree s
opened_file [] tree s json begins = absurd (none_some tree (sym nothing_read ∙ json.1))
opened_file (b ∷ bytes) tree s json begins =
    let same : begins.0 ≡ tree = ap (λ (o : Option Data). unwrap_or o tree) (sym begins.1.1 ∙ json.1) in
    subst (λ (it : Data). IsSaved it s) same begins.2

file_opened : (bytes : List ℕ) (tree : Data) (s : State) → IsJson bytes tree → IsSaved tree s → BeginsWith bytes s
file_opened [] tree s json saved = absurd (none_some tree (sym nothing_read ∙ json.1))
file_opened (b ∷ bytes) tree s json saved = (tree, json, saved)

-- a tree that isn't null

pub opened_by : (is_null : Option ⊤) (tree : Data) (s : State) → is_some is_null ≡ false → IsSaved tree s → IsOpenedBy is_null tree s
opened_by None tree s other saved = saved
opened_by (Some it) tree s other saved = absurd (cc)

saved_by : (is_null : Option ⊤) (tree : Data) (s : State) → is_some is_null ≡ false → IsOpenedBy is_null tree s → IsSaved tree s
saved_by None tree s other opened = opened
saved_by (Some it) tree s other opened = absurd (cc)

pub closed_by : (e : Refusal) (bytes : List ℕ) (tree : Data) → is_some (as_null tree) ≡ false → IsJson bytes tree → IsShut bytes e → IsClosed tree e
closed_by (refusal.Load e) bytes tree other json shut =
    (λ s opened. shut.0 s (file_opened bytes tree s json (saved_by (as_null tree) tree s other opened)), (bytes, json, shut.1, shut.2))
closed_by refusal.Memory bytes tree other json shut = tt
closed_by refusal.Json bytes tree other json shut = absurd shut
closed_by refusal.Request bytes tree other json shut = absurd shut
closed_by refusal.Line bytes tree other json shut = absurd shut
closed_by refusal.Running bytes tree other json shut = absurd shut
closed_by refusal.Function bytes tree other json shut = absurd shut
closed_by refusal.Value bytes tree other json shut = absurd shut
closed_by refusal.Answer bytes tree other json shut = absurd shut
closed_by refusal.Length bytes tree other json shut = absurd shut
