-- Commands neither see nor change the open definition, where there is none.
use Rattle.std.proofs.Common.{◌≡◌, List, [], ◌∷◌, Option, Some, None, refl}
use Rattle.apl_defn.specs.Definitions.{Text}
use Rattle.apl_machine_state.specs.State.{State}
use Rattle.apl_machine_state.specs.Objects.{erased, without_global}
use Rattle.apl_session.specs.declared.commands.Command.{Command}
use Rattle.apl_session.specs.declared.commands.Command.TheVariants.{StateIndicator, Functions, Variables, Erase, Clear}
use Rattle.apl_session.specs.Defining.{closed}
use Rattle.apl_session.specs.Commands.{before_blank, from_blank, words_of, command_of, names_in, erasing, obeyed, ordered, commanded}

erased-closed : (names : List Text) (s : State) → closed (erased names s) ≡ erased names (closed s)
erased-closed [] s = refl
erased-closed (name ∷ names) s = erased-closed names (without_global name s)

erasing-closed : (names : Option (List Text)) (s : State) → closed (erasing s names) ≡ erasing (closed s) names
erasing-closed None s = refl
erasing-closed (Some []) s = refl
erasing-closed (Some (name ∷ names)) s = erased-closed (name ∷ names) s

obeyed-closed : (c : Command) (s : State) → closed (obeyed s c) ≡ obeyed (closed s) c
obeyed-closed StateIndicator s = refl
obeyed-closed Functions s = refl
obeyed-closed Variables s = refl
obeyed-closed Erase s = refl
obeyed-closed Clear s = refl

ordered-closed : (c : Option Command) (words : List Text) (s : State) → closed (ordered s c words) ≡ ordered (closed s) c words
ordered-closed None words s = refl
ordered-closed (Some Erase) words s = erasing-closed (names_in words) s
ordered-closed (Some StateIndicator) [] s = obeyed-closed StateIndicator s
ordered-closed (Some StateIndicator) (word ∷ words) s = refl
ordered-closed (Some Functions) [] s = obeyed-closed Functions s
ordered-closed (Some Functions) (word ∷ words) s = refl
ordered-closed (Some Variables) [] s = obeyed-closed Variables s
ordered-closed (Some Variables) (word ∷ words) s = refl
ordered-closed (Some Clear) [] s = obeyed-closed Clear s
ordered-closed (Some Clear) (word ∷ words) s = refl

pub commanded-closed : (text : Text) (s : State) → closed (commanded s text) ≡ commanded (closed s) text
commanded-closed text s = ordered-closed (command_of (before_blank text)) (words_of (from_blank text)) s

pub ruleset as_commanded = (commanded-closed)
