-- What the refusal of a file tells of its bytes.
use Rattle.std.proofs.Common.{◌≡◌, ◌≢◌, ℕ, List, Result, Ok, Err, sym, subst}
use Rattle.std.specs.Prelude.{IfErr, IsErrAnd}
use Rattle.apl_workspace_file.specs.Fitting.{Fits}
use Rattle.apl_workspace_file.specs.Json.{IsJson}
use Rattle.apl_workspace_file.specs.Trees.{tree_of}
use Rattle.apl_workspace_file.specs.declared.fields.File.{File}
use Rattle.apl_loading.specs.Refusals.{IsRefused}
use Rattle.apl_loading.specs.declared.error.LoadFault.{LoadFault}
use Rattle.apl_loading.specs.declared.error.LoadFault.TheVariants as fault
use Rattle.apl_workspace.specs.Refusals.{IsUnloaded, error_of_fault}
use Rattle.apl_workspace.specs.declared.error.LoadError.{LoadError}

unloaded : {T : Type 0} (bytes : List ℕ) (e : LoadError) (r : Result T LoadError) → IsUnloaded bytes e → IsErrAnd r (λ x. x ≡ e) → IfErr r (λ x. IsUnloaded bytes x)
unloaded bytes e (Ok m) h is = absurd is
unloaded bytes e (Err x) h is = subst (λ (y : LoadError). IsUnloaded bytes y) (sym is) h

other_array : fault.Array ≢ fault.Memory
other_array e = absurd cc

other_definition : fault.Definition ≢ fault.Memory
other_definition e = absurd cc

other_context : fault.Context ≢ fault.Memory
other_context e = absurd cc

other_code : fault.Code ≢ fault.Memory
other_code e = absurd cc

other_limit : fault.Limit ≢ fault.Memory
other_limit e = absurd cc

unheld : (bytes : List ℕ) (f : File) (e : LoadFault) → Fits f × IsJson bytes (tree_of f) → (e ≢ fault.Memory → IsRefused f e) → IsUnloaded bytes (error_of_fault e)
unheld bytes f fault.Array h refused = record { file = f; fits = h.0; json = h.1; refused = refused other_array }
unheld bytes f fault.Definition h refused = record { file = f; fits = h.0; json = h.1; refused = refused other_definition }
unheld bytes f fault.Context h refused = record { file = f; fits = h.0; json = h.1; refused = refused other_context }
unheld bytes f fault.Code h refused = record { file = f; fits = h.0; json = h.1; refused = refused other_code }
unheld bytes f fault.Limit h refused = record { file = f; fits = h.0; json = h.1; refused = refused other_limit }
unheld bytes f fault.Memory h refused = tt

pub fault_refused : {T : Type 0} (bytes : List ℕ) (f : File) (e : LoadFault) (r : Result T LoadError) → Fits f × IsJson bytes (tree_of f) → (e ≢ fault.Memory → IsRefused f e) → IsErrAnd r (λ x. x ≡ error_of_fault e)
    → IfErr r (λ x. IsUnloaded bytes x)
fault_refused bytes f e r found refused is = unloaded bytes (error_of_fault e) r (unheld bytes f e found refused) is
