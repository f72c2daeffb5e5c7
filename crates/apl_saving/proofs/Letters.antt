-- The letters of classes, one more.
use Rattle.std.proofs.Common.{◌≡◌, ℕ, ◌+◌, ◌<◌, List, [], ◌∷◌, ◌++◌, length, take, get_or, sym, ap, subst, ◌∙◌, arith}
use Rattle.std.specs.Prelude.{encode_utf8}
use Rattle.std.proofs.lemmas.List.{map-append, take_more}
use Rattle.apl_symbols.specs.declared.class.Class.{Class}
use Rattle.apl_symbols.specs.declared.class.Class.TheVariants.{Variable, Niladic, Function}
use Rattle.apl_saved.specs.Spelled.{letter_of, letters_of}

ascii : (class : Class) → letter_of class < 128
ascii Variable = omega arith
ascii Niladic = omega arith
ascii Function = omega arith

pub letters_more : (letters new : List ℕ) (classes : List Class) (i c : ℕ) → letters ≡ letters_of (take i classes) → new ≡ letters ++ encode_utf8 c → (c < 128 → encode_utf8 c ≡ c ∷ []) → c ≡ letter_of (get_or classes i Variable)
    → i < length classes → new ≡ letters_of (take (i + 1) classes)
letters_more letters new classes i c so_far grown byte same lt =
    let class = get_or classes i Variable in
    let more : take (i + 1) classes ≡ take i classes ++ class ∷ [] = take_more classes i Variable lt in
    let small : c < 128 = subst (λ (n : ℕ). n < 128) (sym same) (ascii class) in
    grown
    ∙ ap (λ bs. bs ++ encode_utf8 c) so_far
    ∙ ap (λ bs. letters_of (take i classes) ++ bs) (byte small ∙ ap (λ (n : ℕ). n ∷ []) same)
    ∙ sym (map-append letter_of (take i classes) (class ∷ []))
    ∙ ap letters_of (sym more)
