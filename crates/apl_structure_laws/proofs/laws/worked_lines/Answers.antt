use Rattle.std.proofs.Common.{refl}
use Rattle.apl_structure_laws.proofs.laws.worked_lines.Goals as goal

pub returns : goal.returns
returns c = record {
  turned = refl;
  turned_back = refl;
  first = refl;
  others = refl;
  joined = refl;
  spread = refl;
  kept = refl;
  assigned_once = refl;
  read_once = refl;
  assigned_twice = refl;
  read_twice = refl;
  digits = refl;
  value = refl;
}
