-- How contexts stand beneath others, whatever their lines and maps are.
use Rattle.std.proofs.Common.{◌≡◌, ℕ, List, [], ◌∷◌, drop, true, Option, Some, None, sym, refl, subst}
use Rattle.apl_defn.specs.Definitions.{Text, Definition}
use Rattle.apl_names.specs.Maps.{Map, first_map}
use Rattle.apl_machine_state.specs.Items.{Rest}
use Rattle.apl_machine_state.specs.Environment.{Context, Statement, Call, Execute, rest_of, with_rest, with_maps, is_suspended, is_idle_in, behind_statement}
use Rattle.apl_order.specs.Order.{holes, HasHoles, HasNoHole, IsAtLine, IsSuspended, IsBelow, AreInOrder}

-- Contexts in order, but for the newest: of it this is true, and this where there is none.
abbrev pub StandAs : Type 0 → (Option Rest → Type 0) → List Context → Type 0
StandAs None_left Is_newest [] = None_left
StandAs None_left Is_newest (context ∷ below) = IsAtLine context × Is_newest (rest_of context) × IsBelow context below

-- the newest awaits its answer
abbrev pub ArePendent : List Context → Type 0
ArePendent contexts = StandAs ⊥ (HasHoles 1) contexts

-- none, or the newest is suspended
abbrev pub AreIdle : List Context → Type 0
AreIdle contexts = StandAs (Unit {0}) IsSuspended contexts

pub below-statement : (text : Text) (rest : Rest) (below : List Context) → IsBelow (Statement text rest) below → AreIdle below
below-statement text rest [] h = h
below-statement text rest (context ∷ below) h = h

pub below-call : (d : Definition) (n : ℕ) (locals : Map) (rest : Option Rest) (below : List Context) → IsBelow (Call d n locals rest) below → ArePendent below
below-call d n locals rest [] h = h
below-call d n locals rest (context ∷ below) h = h

pub below-execute : (text : Text) (rest : Rest) (below : List Context) → IsBelow (Execute text rest) below → ArePendent below
below-execute text rest [] h = h
below-execute text rest (context ∷ below) h = h

pub statement-above : (text : Text) (rest : Rest) (below : List Context) → AreIdle below → IsBelow (Statement text rest) below
statement-above text rest [] h = h
statement-above text rest (context ∷ below) h = h

pub call-above : (d : Definition) (n : ℕ) (locals : Map) (rest : Option Rest) (below : List Context) → ArePendent below → IsBelow (Call d n locals rest) below
call-above d n locals rest [] h = h
call-above d n locals rest (context ∷ below) h = h

pub execute-above : (text : Text) (rest : Rest) (below : List Context) → ArePendent below → IsBelow (Execute text rest) below
execute-above text rest [] h = h
execute-above text rest (context ∷ below) h = h

suspended-whole : (rest : Option Rest) → IsSuspended rest → HasNoHole rest
suspended-whole None h = tt
suspended-whole (Some rest) h = elim h [ ]

-- idle contexts are in order
pub idle-order : (contexts : List Context) → AreIdle contexts → AreInOrder contexts
idle-order [] h = tt
idle-order (context ∷ below) h = (h.0, suspended-whole (rest_of context) h.1, h.2)

pub order-below : (text : Text) (rest : Rest) (below : List Context) → IsBelow (Statement text rest) below → AreInOrder below
order-below text rest below h = idle-order below (below-statement text rest below h)

suspended-by : (rest : Option Rest) → is_suspended rest ≡ true → IsSuspended rest
suspended-by None e = tt
suspended-by (Some rest) e = cc

-- contexts in order in which nothing runs
pub order-idle : (contexts : List Context) → is_idle_in contexts ≡ true → AreInOrder contexts → AreIdle contexts
order-idle [] idle h = tt
order-idle (context ∷ below) idle h = (h.0, suspended-by (rest_of context) idle, h.2)

-- what a context's line is doesn't matter for what stands beneath
rest-above : (rest : Rest) (context : Context) (below : List Context) → IsBelow context below → IsBelow (with_rest rest context) below
rest-above rest (Statement text old) below h = statement-above text rest below (below-statement text old below h)
rest-above rest (Call d n locals old) below h = call-above d n locals (Some rest) below (below-call d n locals old below h)
rest-above rest (Execute text old) below h = execute-above text rest below (below-execute text old below h)

rest-line : (rest : Rest) (context : Context) → IsAtLine context → IsAtLine (with_rest rest context)
rest-line rest (Statement text old) h = h
rest-line rest (Call d n locals old) h = h
rest-line rest (Execute text old) h = h

rest-with : (rest : Rest) (context : Context) → rest_of (with_rest rest context) ≡ Some rest
rest-with rest (Statement text old) = refl
rest-with rest (Call d n locals old) = refl
rest-with rest (Execute text old) = refl

-- a context with another line, without a hole
pub order-with : (rest : Rest) (context : Context) (below : List Context) → holes rest.items ≡ 0 → IsAtLine context → IsBelow context below → AreInOrder (with_rest rest context ∷ below)
order-with rest context below none at b = (rest-line rest context at, subst HasNoHole (sym (rest-with rest context)) none, rest-above rest context below b)

-- or with one
pub pendent-with : (rest : Rest) (context : Context) (below : List Context) → holes rest.items ≡ 1 → IsAtLine context → IsBelow context below → ArePendent (with_rest rest context ∷ below)
pendent-with rest context below one at b = (rest-line rest context at, subst (HasHoles 1) (sym (rest-with rest context)) one, rest-above rest context below b)

-- nor do the maps of calls matter
maps-stand : (None_left : Type 0) (Is_newest : Option Rest → Type 0) (ms : List Map) (contexts : List Context) → StandAs None_left Is_newest contexts → StandAs None_left Is_newest (with_maps ms contexts)
maps-stand None_left Is_newest ms [] h = h
maps-stand None_left Is_newest ms (Statement text rest ∷ below) h =
    (h.0, h.1, statement-above text rest (with_maps ms below) (maps-stand (Unit {0}) IsSuspended ms below (below-statement text rest below h.2)))
maps-stand None_left Is_newest ms (Call d n locals rest ∷ below) h =
    (h.0, h.1, call-above d n (first_map ms) rest (with_maps (drop 1 ms) below) (maps-stand ⊥ (HasHoles 1) (drop 1 ms) below (below-call d n locals rest below h.2)))
maps-stand None_left Is_newest ms (Execute text rest ∷ below) h =
    (h.0, h.1, execute-above text rest (with_maps ms below) (maps-stand ⊥ (HasHoles 1) ms below (below-execute text rest below h.2)))

order-stand : (contexts : List Context) → AreInOrder contexts → StandAs (Unit {0}) HasNoHole contexts
order-stand [] h = h
order-stand (context ∷ below) h = h

stand-order : (contexts : List Context) → StandAs (Unit {0}) HasNoHole contexts → AreInOrder contexts
stand-order [] h = h
stand-order (context ∷ below) h = h

-- contexts whose calls have other maps
pub maps-order : (ms : List Map) (contexts : List Context) → AreInOrder contexts → AreInOrder (with_maps ms contexts)
maps-order ms contexts h = stand-order (with_maps ms contexts) (maps-stand (Unit {0}) HasNoHole ms contexts (order-stand contexts h))

-- the contexts behind the nearest statement
pub behind-order : (None_left : Type 0) (Is_newest : Option Rest → Type 0) (contexts : List Context) → StandAs None_left Is_newest contexts → AreInOrder (behind_statement contexts)
behind-order None_left Is_newest [] h = tt
behind-order None_left Is_newest (Statement text rest ∷ below) h = order-below text rest below h.2
behind-order None_left Is_newest (Call d n locals rest ∷ below) h = behind-order ⊥ (HasHoles 1) below (below-call d n locals rest below h.2)
behind-order None_left Is_newest (Execute text rest ∷ below) h = behind-order ⊥ (HasHoles 1) below (below-execute text rest below h.2)
