-- Arrays of a file.
use Rattle.std.proofs.Common.{◌≡◌, ◌≢◌, ℕ, List, Option, Some, None, length, refl, sym, ap, ◌∙◌, subst}
use Rattle.apl_charset.proofs.Unique.{one_text}
use Rattle.apl_arrays.specs.Cells.{Arr, Items, cells_of}
use Rattle.apl_arrays.specs.Cells as cells
use Rattle.apl_arrays.specs.Index.{size_of}
use Rattle.apl_machine_state.specs.declared.operand.Operand.{Operand}
use Rattle.apl_machine_state.specs.declared.operand.Operand.TheVariants as operands
use Rattle.apl_loading.proofs.Lists.{one_list}
use Rattle.apl_saved.specs.Spelled.{AreElements, BothOrNeither, IsArrayOf, IsOperandOf, Pairwise}
use Rattle.apl_workspace_file.specs.declared.fields.ArrayField.{ArrayField}
use Rattle.apl_workspace_file.specs.declared.fields.OperandField.{OperandField}
use Rattle.apl_workspace_file.specs.declared.fields.OperandField.TheVariants as fields
use Rattle.apl_workspace_file.specs.declared.fields.Elements.{Elements}
use Rattle.apl_workspace_file.specs.declared.fields.Elements.TheVariants as elements

-- elements are some in one way
pub one_elements : (e : Elements) (i j : Items) → AreElements e i → AreElements e j → i ≡ j
one_elements (elements.Numbers zs) (cells.Numbers ms) (cells.Numbers ns) a b = ap cells.Numbers (sym a ∙ b)
one_elements (elements.Numbers zs) (cells.Numbers ms) (cells.Characters ds) a b = absurd b
one_elements (elements.Numbers zs) (cells.Characters cs) j a b = absurd a
one_elements (elements.Text text) (cells.Characters cs) (cells.Characters ds) a b = ap cells.Characters (one_text text cs ds a b)
one_elements (elements.Text text) (cells.Characters cs) (cells.Numbers ms) a b = absurd b
one_elements (elements.Text text) (cells.Numbers ms) j a b = absurd a

-- a field is one array
pub one_array : (f : ArrayField) (a b : Arr) → IsArrayOf f a → IsArrayOf f b → a ≡ b
one_array f a b g h =
    let s : a.shape ≡ b.shape = sym g.shape ∙ h.shape in
    let i : a.items ≡ b.items = one_elements f.elements a.items b.items g.elements h.elements in
    λ k. record { shape = s k; items = i k }

-- where the elements are not as many as the shape asks for, it is none
pub no_array : (f : ArrayField) (items : Items) (n m : ℕ) → AreElements f.elements items → n ≡ length (cells_of items) → m ≡ size_of f.shape → n ≢ m → (a : Arr) → ¬ IsArrayOf f a
no_array f items n m e p q d a g =
    d (p ∙ ap (λ i. length (cells_of i)) (one_elements f.elements items a.items e g.elements) ∙ g.whole.full ∙ ap size_of (sym g.shape) ∙ sym q)

-- ---- values that may be missing, and operands

pub one_value : (f : Option ArrayField) (a b : Option Arr) → BothOrNeither IsArrayOf f a → BothOrNeither IsArrayOf f b → a ≡ b
one_value None None None g h = refl
one_value None None (Some b) g h = absurd h
one_value None (Some a) b g h = absurd g
one_value (Some f) (Some a) (Some b) g h = ap Some (one_array f a b g h)
one_value (Some f) (Some a) None g h = absurd h
one_value (Some f) None b g h = absurd g

pub one_operand : (f : OperandField) (a b : Operand) → IsOperandOf f a → IsOperandOf f b → a ≡ b
one_operand (fields.Array f) (operands.Value a) (operands.Value b) g h = ap operands.Value (one_array f a b g h)
one_operand (fields.Array f) (operands.Value a) (operands.Slots bs) g h = absurd h
one_operand (fields.Array f) (operands.Slots as_) b g h = absurd g
one_operand (fields.Slots fs) (operands.Slots xs) (operands.Slots ys) g h = ap operands.Slots (one_list (BothOrNeither IsArrayOf) one_value fs xs ys g h)
one_operand (fields.Slots fs) (operands.Slots xs) (operands.Value b) g h = absurd h
one_operand (fields.Slots fs) (operands.Value a) b g h = absurd g

pub no_slots : (f : OperandField) (fs : List (Option ArrayField)) → f ≡ fields.Slots fs → ((ss : List (Option Arr)) → ¬ Pairwise (BothOrNeither IsArrayOf) fs ss) → (o : Operand) → ¬ IsOperandOf f o
no_slots f fs e none o h = go o (subst (λ g. IsOperandOf g o) e h)
  where
    go : (o : Operand) → ¬ IsOperandOf (fields.Slots fs) o
    go (operands.Value a) h = absurd h
    go (operands.Slots ss) h = none ss h
