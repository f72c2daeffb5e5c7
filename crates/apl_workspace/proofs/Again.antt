-- The file of a machine that a session came to is loaded again.
use Rattle.std.proofs.Common.{◌≡◌, ℕ, List, true, refl, sym, subst}
use Rattle.apl_machine_state.specs.State.{State, is_idle}
use Rattle.apl_parts.specs.Taken.{parts_of}
use Rattle.apl_parts.specs.Workspaces.{Pieces}
use Rattle.apl_workspace_file.specs.Json.{IsJson}
use Rattle.apl_workspace_file.specs.Trees.{tree_of}
use Rattle.apl_workspace_file.specs.declared.fields.File.{File}
use Rattle.apl_workspace_file.specs.declared.fields.Version.TheVariants.{Two}
use Rattle.apl_saved.specs.Spelled.{IsFileOf}
use Rattle.apl_savable.specs.Savable.{IsSavable}
use Rattle.apl_savable.proofs.Ruled.{parts-ruled}
use Rattle.apl_savable.proofs.Same.{saved-same}
use Rattle.apl_workspace.specs.Saved.{IsLoaded, settled}
use Rattle.apl_workspace.proofs.Fitting.{file_fits}

pub is_loaded : (bytes : List ℕ) (f : File) (p : Pieces) (s : State) → IsJson bytes (tree_of f) → IsFileOf f p → p ≡ parts_of s → f.version ≡ Two → is_idle s ≡ true → IsSavable s → IsLoaded bytes (settled s)
is_loaded bytes f p s json holds is two idle h =
    let whole : IsFileOf f (parts_of s) = subst (λ (q : Pieces). IsFileOf f q) is holds in
    let ruled = parts-ruled s h idle in (
      tree_of f,
      json,
      record {
        file = f;
        is_tree = refl;
        fits = file_fits f (parts_of s) whole ruled two;
        parts = parts_of s;
        holds = whole;
        ruled = ruled;
        state = sym (saved-same s h idle);
      },
    )
