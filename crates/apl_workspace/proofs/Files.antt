-- Files that are loaded and saved again stay as they were.
use Rattle.std.proofs.Common.{◌≡◌, List, ℕ, refl, sym, ap, subst, ◌∙◌}
use Rattle.serde_json.specs.Written.{compact_text}
use Rattle.apl_machine_state.specs.State.{State}
use Rattle.apl_parts.specs.Restored.{state_of}
use Rattle.apl_parts.specs.Taken.{parts_of}
use Rattle.apl_parts.specs.Workspaces.{Pieces}
use Rattle.apl_saved.specs.Rules.{AreRuled}
use Rattle.apl_saved.specs.Spelled.{IsFileOf}
use Rattle.apl_saved.proofs.OneFile.{one_file}
use Rattle.apl_savable.proofs.OneState.{loaded-parts}
use Rattle.apl_workspace_file.specs.Trees.{tree_of}
use Rattle.apl_workspace_file.specs.declared.fields.File.{File}
use Rattle.apl_workspace_file.specs.declared.fields.Version.TheVariants.{Two}
use Rattle.apl_workspace.specs.Saved.{IsSavedAs}
use Rattle.apl_workspace.specs.Promises.{LoadedIsSavedAsItWas, SavedIsSavedAgain}

-- the same file of version 2 holds the same
renewed : (f : File) (p : Pieces) → IsFileOf f p → IsFileOf (record f { version = Two }) p
renewed f p h = record { functions = h.functions; variables = h.variables; origin = h.origin; contexts = h.contexts }

saved-file : (f g : File) (p : Pieces) → IsFileOf f p → IsFileOf g p → f.version ≡ Two → g.version ≡ Two → compact_text (tree_of f) ≡ compact_text (tree_of g)
saved-file f g p hf hg vf vg = ap (λ (h : File). compact_text (tree_of h)) (one_file f g p hf hg (vf ∙ sym vg))

pub loaded-saved : LoadedIsSavedAsItWas
loaded-saved f p bytes h ruled saved =
    let holds : IsFileOf saved.file p = subst (λ (q : Pieces). IsFileOf saved.file q) (loaded-parts p ruled) saved.holds in
    saved.text ∙ saved-file saved.file (record f { version = Two }) p holds (renewed f p h) saved.version refl

pub saved-again : SavedIsSavedAgain
saved-again s bytes again first second = second.text ∙ saved-file second.file first.file (parts_of s) second.holds first.holds second.version first.version ∙ sym first.text
