-- What files and workspaces promise of one another.
use Rattle.std.specs.Prelude.{◌≡◌}
use Rattle.apl_parts.specs.Workspaces.{Pieces}
use Rattle.apl_workspace_file.specs.declared.fields.File.{File}
use Rattle.apl_saved.specs.Spelled.{IsFileOf}
use Rattle.apl_saved.specs.Rules.{AreRuled}

-- a file holds one workspace that keeps to the rules
abbrev pub HoldOneWorkspace : Type 0
HoldOneWorkspace = (f : File) (p q : Pieces) → IsFileOf f p → IsFileOf f q → AreRuled p → AreRuled q → p ≡ q

-- two files of one version that hold the same are the same
abbrev pub AreOneFile : Type 0
AreOneFile = (f g : File) (p : Pieces) → IsFileOf f p → IsFileOf g p → f.version ≡ g.version → f ≡ g
