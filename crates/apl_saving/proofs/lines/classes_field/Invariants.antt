use Rattle.std.proofs.Common.{◌≡◌, take}
use Rattle.std.specs.Prelude.{string_bytes}
use Rattle.apl_saved.specs.Spelled.{letters_of}
use Rattle.apl_saving.proofs.lines.classes_field.Given as goal

abbrev pub invariant-loop-class : goal.invariant-loop-class
invariant-loop-class l = string_bytes l.letters ≡ letters_of (take l.class-index l.classes)
