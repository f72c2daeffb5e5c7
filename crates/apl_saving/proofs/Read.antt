-- The lines of a machine's contexts have tokens.
use Rattle.std.proofs.Common.{All, List, [], ◌∷◌, map, ap}
use Rattle.std.specs.Prelude.{is_ok}
use Rattle.std.proofs.lemmas.List.Elements.{All-cons, All-nil}
use Rattle.apl_machine_state.specs.Environment.{Context, Statement, Call, Execute}
use Rattle.apl_order.specs.Order.{AreInOrder, IsAtLine, IsBelow}
use Rattle.apl_order.specs.Kept.{AreKept, IsKeptContext}
use Rattle.apl_parts.specs.Taken.{part_of}
use Rattle.apl_parts.proofs.Added.{all_reverse}
use Rattle.apl_saving.specs.Readable.{IsReadable, KeptPartsAreReadable}

abbrev AreAtLines : List Context → Type 0
AreAtLines [] = Unit {0}
AreAtLines (c ∷ cs) = IsAtLine c × AreAtLines cs

lines_below : (c : Context) (cs : List Context) → IsBelow c cs → AreAtLines cs
lines_below c [] h = tt
lines_below (Statement text rest) (d ∷ cs) h = (h.0, lines_below d cs h.2)
lines_below (Call f n locals rest) (d ∷ cs) h = (h.0, lines_below d cs h.2)
lines_below (Execute text rest) (d ∷ cs) h = (h.0, lines_below d cs h.2)

at_lines : (cs : List Context) → AreInOrder cs → AreAtLines cs
at_lines [] h = tt
at_lines (c ∷ cs) h = (h.0, lines_below c cs h.2)

part_read : (c : Context) → IsAtLine c → IsKeptContext c → IsReadable (part_of c)
part_read (Statement text rest) at h = ap is_ok h.read
part_read (Call d n locals rest) at h = at
part_read (Execute text rest) at h = ap is_ok h.read

parts_read : (cs : List Context) → AreAtLines cs → AreKept cs → All IsReadable (map part_of cs)
parts_read [] at h = All-nil IsReadable
parts_read (c ∷ cs) at h = All-cons IsReadable (part_of c) (map part_of cs) (part_read c at.0 h.0) (parts_read cs at.1 h.1)

pub kept_read : KeptPartsAreReadable
kept_read s kept = all_reverse IsReadable (map part_of s.contexts) (parts_read s.contexts (at_lines s.contexts kept.order) kept.keeps.kept)
