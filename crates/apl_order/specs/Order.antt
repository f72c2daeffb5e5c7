-- How contexts stand above one another.
use Rattle.std.specs.Prelude.{◌≡◌, ℕ, ◌+◌, List, [], ◌∷◌, true, Option, Some, None}
use Rattle.apl_defn.specs.Definitions.{Text, is_line}
use Rattle.apl_machine_state.specs.Items.{Content, Awaited, Item, Rest}
use Rattle.apl_machine_state.specs.Environment.{Context, Statement, Call, Execute, rest_of}
use Rattle.apl_machine_state.specs.State.{State, is_idle, step, interrupt}
use Rattle.apl_machine_state.specs.Beginning.{begun}

-- how many holes items have
abbrev pub hole : Content → ℕ
hole Awaited = 1
hole content = 0

abbrev pub holes : List Item → ℕ
holes [] = 0
holes (item ∷ items) = hole item.content + holes items

-- a line has so many holes
abbrev pub HasHoles : ℕ → Option Rest → Type 0
HasHoles n None = ⊥
HasHoles n (Some rest) = holes rest.items ≡ n

-- a line without a hole, or a suspended call
abbrev pub HasNoHole : Option Rest → Type 0
HasNoHole None = Unit {0}
HasNoHole (Some rest) = holes rest.items ≡ 0

-- a call stands at a line of its definition
abbrev pub IsAtLine : Context → Type 0
IsAtLine (Statement text rest) = Unit {0}
IsAtLine (Call d n locals rest) = is_line d n ≡ true
IsAtLine (Execute text rest) = Unit {0}

-- a context is suspended
abbrev pub IsSuspended : Option Rest → Type 0
IsSuspended None = Unit {0}
IsSuspended (Some rest) = ⊥

-- The contexts beneath one: beneath a statement none or a suspended call, beneath a call or an execute one that awaits its answer, with one hole.
abbrev pub IsBelow : Context → List Context → Type 0
IsBelow (Statement text rest) [] = Unit {0}
IsBelow (Statement text rest) (context ∷ below) = IsAtLine context × IsSuspended (rest_of context) × IsBelow context below
IsBelow (Call d n locals rest) [] = ⊥
IsBelow (Call d n locals rest) (context ∷ below) = IsAtLine context × HasHoles 1 (rest_of context) × IsBelow context below
IsBelow (Execute text rest) [] = ⊥
IsBelow (Execute text rest) (context ∷ below) = IsAtLine context × HasHoles 1 (rest_of context) × IsBelow context below

-- Contexts are in order: the newest has no hole or is suspended, and each of the others stands as IsBelow says.
abbrev pub AreInOrder : List Context → Type 0
AreInOrder [] = Unit {0}
AreInOrder (context ∷ below) = IsAtLine context × HasNoHole (rest_of context) × IsBelow context below

-- a step keeps the contexts in order
abbrev pub StepsKeepOrder : Type 0
StepsKeepOrder = (s : State) → AreInOrder s.contexts → AreInOrder (step s).contexts

-- so does an interrupt
abbrev pub InterruptsKeepOrder : Type 0
InterruptsKeepOrder = (s : State) → AreInOrder s.contexts → AreInOrder (interrupt s).contexts

-- and so does a statement that begins in an idle state
abbrev pub StatementsKeepOrder : Type 0
StatementsKeepOrder = (s : State) (text : Text) → is_idle s ≡ true → AreInOrder s.contexts → AreInOrder (begun s text).contexts
