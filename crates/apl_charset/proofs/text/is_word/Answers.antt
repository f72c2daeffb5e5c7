use Rattle.std.proofs.Common.{◌≡◌, ℕ, List, ◌≤◌, ◌∙◌, true, take, length, sym, arith}
use Rattle.std.proofs.lemmas.List.{take_all}
use Rattle.std.specs.Str.{bytes_eq}
use Rattle.std.proofs.lemmas.Slice.Eq.{bytes_eq-Decides}
use Rattle.apl_charset.proofs.text.is_word.Goals as goal

whole : (a b : List ℕ) (i : ℕ) → length a ≤ i → length b ≤ i → take i a ≡ take i b → true ≡ bytes_eq a b
whole a b i la lb h = sym ((bytes_eq-Decides a b).1 (sym (take_all i a la) ∙ h ∙ take_all i b lb))

pub returns : goal.returns
returns c = whole c.args.text.now c.args.word.now c.loop-i.i (omega arith) (omega arith) c.loop-i.invariant
