-- A clear workspace has no parts but its index origin.
use Rattle.std.proofs.Common.{◌≡◌, [], refl}
use Rattle.apl_machine_state.specs.State.{clear}
use Rattle.apl_parts.specs.Workspaces.{Pieces}
use Rattle.apl_parts.specs.Taken.{parts_of}
use Rattle.apl_parts.specs.Restored.{state_of}

abbrev no_pieces : Pieces
no_pieces = record { functions = []; variables = []; origin = 1; contexts = [] }

clear_taken : parts_of clear ≡ no_pieces
clear_taken = refl

clear_restored : state_of no_pieces ≡ clear
clear_restored = refl
