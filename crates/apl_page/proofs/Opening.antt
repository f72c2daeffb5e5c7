-- What opening a workspace comes to at a place.
use Rattle.std.proofs.Common.{◌≡◌, ℕ, List, [], Option, Some, None, refl, ap, ◌∙◌}
use Rattle.std.specs.Prelude.{Ok, Err}
use Rattle.apl_machine_state.specs.State.{State}
use Rattle.apl_workspace.specs.Numbers.{load_number}
use Rattle.apl_workspace.specs.Refusals.{IsUnloaded}
use Rattle.apl_workspace.specs.declared.error.LoadError.{LoadError}
use Rattle.apl_workspace.specs.declared.error.LoadError.TheVariants as load
use Rattle.apl_kept.specs.Keeping.{BeginsWith}
use Rattle.apl_page.specs.Places.{Keeping, Opens, begun}

pub opens : (workspace : List ℕ) (page : Keeping) (old : Option Keeping) → BeginsWith workspace page.state → page.unsaid ≡ [] → ((s : State) → BeginsWith workspace s → page ≡ begun s)
    → Opens workspace 0 old (Some page)
opens workspace page old begins quiet complete = (
  Ok page.state,
  record { opened = begins; refused = tt; complete = λ s h. ap (λ (k : Keeping). k.state) (complete s h) },
  (refl, ap (λ (unsaid : List ℕ). Some (record { state = page.state; unsaid = unsaid })) quiet),
)

pub refuses : (workspace : List ℕ) (e : LoadError) (number : ℕ) (place : Option Keeping) → IsUnloaded workspace e → ((s : State) → BeginsWith workspace s → e ≡ load.Memory)
    → number ≡ load_number e → Opens workspace number place place
refuses workspace e number place unloaded complete numbered =
    (Err e, record { opened = tt; refused = unloaded; complete = complete }, (numbered, refl))
