-- A reader of trees takes exactly the trees of what it may find.
use Rattle.std.proofs.Common.{◌≡◌, ℕ, ℤ, pos, negsuc, ◌<◌, ◌^◌, Bool, true, false, cond, ltb, bytes_eq, List, [], ◌∷◌, map, Option, Some, None, Result, Ok, Err, refl, ap, subst, ◌∙◌}
use Rattle.std.specs.Prelude.{⊤}
use Rattle.std.specs.List.{AllByRecursion}
use Rattle.std.proofs.lemmas.Bool.{ltb-true, lt-ltb}
use Rattle.std.proofs.lemmas.Slice.Eq.{bytes_eq-Decides}
use Rattle.serde_json.specs.Data.{unsigned, negative, float, Data, null, boolean, number, string, array, object, Items, no_items, item, Members, member, no_members}
use Rattle.serde_json.specs.View.{items_of}
use Rattle.serde_json.specs.Find.{as_object}
use Rattle.apl_workspace_file.specs.Trees.{whole_tree, number_tree, list_tree, option_tree}
use Rattle.apl_workspace_file.specs.Fitting.{IsWhole, IsNumber, FitsOption}
use Rattle.apl_workspace_file.specs.Reading.{◌>>=◌, form_of, object_of, field, next, ended, with_field, whole_of, number_of, text_of, word_of, read_items, list_of, option_by, option_of}
use Rattle.apl_workspace_file.specs.declared.error.TreeError.{TreeError}
use Rattle.apl_workspace_file.specs.declared.error.TreeError.TheVariants.{Form}

-- the value of a step that did not fail
pub bind_ok : {A B : Type 0} (r : Result A TreeError) (f : A → Result B TreeError) (y : B) → (r >>= f) ≡ Ok y → (x : A) × (r ≡ Ok x) × (f x ≡ Ok y)
bind_ok (Ok x) f y e = (x, refl, e)
bind_ok (Err d) f y e = absurd cc

-- a test that did not fail
pub test_ok : {A : Type 0} (b : Bool) (d : TreeError) (x y : A) → cond b (Ok x) (Err d) ≡ Ok y → (b ≡ true) × (x ≡ y)
test_ok true d x y e = (refl, cc)
test_ok false d x y e = absurd cc

abbrev done : {A : Type 0} → A → Result A TreeError
done x = Ok x

pub ok_is : {A : Type 0} (x y : A) → done x ≡ done y → x ≡ y
ok_is x y e = cc

same_bytes : (a b : List ℕ) → bytes_eq a b ≡ true → a ≡ b
same_bytes a b e = (bytes_eq-Decides a b).0 e

equal_bytes : (a : List ℕ) → bytes_eq a a ≡ true
equal_bytes a = (bytes_eq-Decides a a).1 refl

-- A reader: what it takes is the tree of what it finds, which fits, and the tree of what fits is read again.
pub record IsCodec {A : Type 0} (read : Data → Result A TreeError) (tree : A → Data) (Fits : A → Type 0) : Type 0 where
  pub takes : (d : Data) (x : A) → read d ≡ Ok x → (d ≡ tree x) × Fits x
  pub again : (x : A) → Fits x → read (tree x) ≡ Ok x

-- the same of the members of an object
pub record IsMembersCodec {A : Type 0} (read : Members → Result A TreeError) (members : A → Members) (Fits : A → Type 0) : Type 0 where
  pub takes : (ms : Members) (x : A) → read ms ≡ Ok x → (ms ≡ members x) × Fits x
  pub again : (x : A) → Fits x → read (members x) ≡ Ok x

-- ---- numbers and texts

whole_takes : (d : Data) (x : ℕ) → whole_of d ≡ Ok x → (d ≡ whole_tree x) × IsWhole x
unfolding whole_of
whole_takes (number (unsigned n)) x e =
    let t = test_ok (ltb n (2 ^ 63)) Form n x e in
    let small : n < 2 ^ 63 = ltb-true _ _ t.0 in
    subst (λ (y : ℕ). (number (unsigned n) ≡ whole_tree y) × (y < 2 ^ 63)) t.1 (refl, small)
whole_takes (number (negative z)) x e = absurd cc
whole_takes (number (float f)) x e = absurd cc
whole_takes null x e = absurd cc
whole_takes (boolean b) x e = absurd cc
whole_takes (string s) x e = absurd cc
whole_takes (array ds) x e = absurd cc
whole_takes (object ms) x e = absurd cc

whole_again : (x : ℕ) → IsWhole x → whole_of (whole_tree x) ≡ Ok x
unfolding whole_of
whole_again x lt = let small : ltb x (2 ^ 63) ≡ true = lt-ltb _ _ lt in rw small refl

pub whole_codec : IsCodec whole_of whole_tree IsWhole
whole_codec = record { takes = whole_takes; again = whole_again }

number_takes : (d : Data) (x : ℤ) → number_of d ≡ Ok x → (d ≡ number_tree x) × IsNumber x
unfolding number_of
number_takes (number (unsigned n)) x e =
    let t = test_ok (ltb n (2 ^ 63)) Form (pos n) x e in
    let small : n < 2 ^ 63 = ltb-true _ _ t.0 in
    subst (λ (y : ℤ). (number (unsigned n) ≡ number_tree y) × IsNumber y) t.1 (refl, small)
number_takes (number (negative (pos n))) x e = absurd cc
number_takes (number (negative (negsuc n))) x e =
    let t = test_ok (ltb n (2 ^ 63)) Form (negsuc n) x e in
    let small : n < 2 ^ 63 = ltb-true _ _ t.0 in
    subst (λ (y : ℤ). (number (negative (negsuc n)) ≡ number_tree y) × IsNumber y) t.1 (refl, small)
number_takes (number (float f)) x e = absurd cc
number_takes null x e = absurd cc
number_takes (boolean b) x e = absurd cc
number_takes (string s) x e = absurd cc
number_takes (array ds) x e = absurd cc
number_takes (object ms) x e = absurd cc

number_again : (x : ℤ) → IsNumber x → number_of (number_tree x) ≡ Ok x
unfolding number_of
number_again (pos n) lt = let small : ltb n (2 ^ 63) ≡ true = lt-ltb _ _ lt in rw small refl
number_again (negsuc n) lt = let small : ltb n (2 ^ 63) ≡ true = lt-ltb _ _ lt in rw small refl

pub number_codec : IsCodec number_of number_tree IsNumber
number_codec = record { takes = number_takes; again = number_again }

abbrev pub Always : {A : Type 0} → A → Type 0
Always x = Unit {0}

text_takes : (d : Data) (x : List ℕ) → text_of d ≡ Ok x → (d ≡ string x) × Always x
text_takes (string s) x e = (ap string (ok_is s x e), tt)
text_takes (number n) x e = absurd cc
text_takes null x e = absurd cc
text_takes (boolean b) x e = absurd cc
text_takes (array ds) x e = absurd cc
text_takes (object ms) x e = absurd cc

pub text_codec : IsCodec text_of string Always
text_codec = record { takes = text_takes; again = λ x h. refl }

word_takes : (word : List ℕ) (d : Data) (u : ⊤) → word_of word d ≡ Ok u → (d ≡ string word) × Always u
unfolding word_of
word_takes word d u e =
    let s = bind_ok (text_of d) (λ s. cond (bytes_eq s word) (Ok tt) (Err Form)) u e in
    let t = test_ok (bytes_eq s.0 word) Form tt u s.2 in
    ((text_takes d s.0 s.1).0 ∙ ap string (same_bytes s.0 word t.0), tt)

word_again : (word : List ℕ) (u : ⊤) → Always u → word_of word (string word) ≡ Ok u
unfolding word_of
word_again word u h = rw (equal_bytes word) refl

pub word_codec : (word : List ℕ) → IsCodec (word_of word) (λ _. string word) Always
word_codec word = record { takes = word_takes word; again = word_again word }

-- what is read of one kind, as a value of all kinds
pub wrapped_takes : {A B : Type 0} (read : Data → Result A TreeError) (tree : A → Data) (Fits : A → Type 0) → IsCodec read tree Fits
    → (wrap : A → B) (whole : B → Data) (WholeFits : B → Type 0) → ((x : A) → tree x ≡ whole (wrap x)) → ((x : A) → Fits x → WholeFits (wrap x))
    → (d : Data) (y : B) → (read d >>= λ x. Ok (wrap x)) ≡ Ok y → (d ≡ whole y) × WholeFits y
wrapped_takes read tree Fits codec wrap whole WholeFits same fits d y e =
    let x = bind_ok (read d) (λ x. Ok (wrap x)) y e in
    let t = codec.takes d x.0 x.1 in
    subst (λ z. (d ≡ whole z) × WholeFits z) (ok_is (wrap x.0) y x.2) (t.0 ∙ same x.0, fits x.0 t.1)

-- ---- lists, and what may be missing

module _ {A : Type 0} (read : Data → Result A TreeError) (tree : A → Data) (Fits : A → Type 0) (codec : IsCodec read tree Fits) where
  items_take : (ds : Items) (xs : List A) → read_items read ds ≡ Ok xs → (ds ≡ items_of (map tree xs)) × AllByRecursion Fits xs
  items_take no_items xs e = subst (λ (ys : List A). (no_items ≡ items_of (map tree ys)) × AllByRecursion Fits ys) (ok_is [] xs e) (refl, tt)
  items_take (item d ds) xs e =
      let a = bind_ok (read d) (λ x. read_items read ds >>= λ ys. Ok (x ∷ ys)) xs e in
      let b = bind_ok (read_items read ds) (λ ys. Ok (a.0 ∷ ys)) xs a.2 in
      let first = codec.takes d a.0 a.1 in
      let others = items_take ds b.0 b.1 in
      subst (λ (ys : List A). (item d ds ≡ items_of (map tree ys)) × AllByRecursion Fits ys) (ok_is (a.0 ∷ b.0) xs b.2) (ap (λ (x : Data). item x ds) first.0 ∙ ap (item (tree a.0)) others.0, (first.1, others.1))

  items_again : (xs : List A) → AllByRecursion Fits xs → read_items read (items_of (map tree xs)) ≡ Ok xs
  items_again [] h = refl
  items_again (x ∷ xs) h = rw (codec.again x h.0, items_again xs h.1) refl

  list_takes : (d : Data) (xs : List A) → list_of read d ≡ Ok xs → (d ≡ list_tree tree xs) × AllByRecursion Fits xs
  unfolding list_of
  list_takes (array ds) xs e = let t = items_take ds xs e in (ap array t.0, t.1)
  list_takes (string s) x e = absurd cc
  list_takes (number n) x e = absurd cc
  list_takes null x e = absurd cc
  list_takes (boolean b) x e = absurd cc
  list_takes (object ms) x e = absurd cc

  list_again : (xs : List A) → AllByRecursion Fits xs → list_of read (list_tree tree xs) ≡ Ok xs
  unfolding list_of
  list_again xs h = items_again xs h

  pub list_codec : IsCodec (list_of read) (list_tree tree) (AllByRecursion Fits)
  list_codec = record { takes = list_takes; again = list_again }

  option_takes : (d : Data) (o : Option A) → option_of read d ≡ Ok o → (d ≡ option_tree tree o) × FitsOption Fits o
  unfolding option_of
  option_takes null o e = subst (λ (p : Option A). (null ≡ option_tree tree p) × FitsOption Fits p) (ok_is None o e) (refl, tt)
  option_takes (array ds) o e = wrapped_takes read tree Fits codec Some (option_tree tree) (FitsOption Fits) (λ x. refl) (λ x h. h) (array ds) o e
  option_takes (string s) o e = wrapped_takes read tree Fits codec Some (option_tree tree) (FitsOption Fits) (λ x. refl) (λ x h. h) (string s) o e
  option_takes (number n) o e = wrapped_takes read tree Fits codec Some (option_tree tree) (FitsOption Fits) (λ x. refl) (λ x h. h) (number n) o e
  option_takes (boolean b) o e = wrapped_takes read tree Fits codec Some (option_tree tree) (FitsOption Fits) (λ x. refl) (λ x h. h) (boolean b) o e
  option_takes (object ms) o e = wrapped_takes read tree Fits codec Some (option_tree tree) (FitsOption Fits) (λ x. refl) (λ x h. h) (object ms) o e

  -- what isn't null is read by the reader itself
  some_again : (d : Data) (x : A) → ¬ (read null ≡ Ok x) → read d ≡ Ok x → option_by d (read d) ≡ Ok (Some x)
  some_again null x other e = absurd (other e)
  some_again (array ds) x other e = rw e refl
  some_again (string s) x other e = rw e refl
  some_again (number n) x other e = rw e refl
  some_again (boolean b) x other e = rw e refl
  some_again (object ms) x other e = rw e refl

  option_again : ((x : A) → ¬ (read null ≡ Ok x)) → (o : Option A) → FitsOption Fits o → option_of read (option_tree tree o) ≡ Ok o
  unfolding option_of
  option_again other None h = refl
  option_again other (Some x) h = some_again (tree x) x (other x) (codec.again x h)

  pub option_codec : ((x : A) → ¬ (read null ≡ Ok x)) → IsCodec (option_of read) (option_tree tree) (FitsOption Fits)
  option_codec other = record { takes = option_takes; again = option_again other }

-- ---- the members of an object

field_takes : (k : List ℕ) (ms : Members) (x : Data × Members) → field k ms ≡ Ok x → ms ≡ member k x.0 x.1
field_takes k no_members x e = absurd cc
field_takes k (member l d ms) x e =
    let t = test_ok (bytes_eq l k) Form (d, ms) x e in
    let at : l ≡ k = same_bytes l k t.0 in
    rw (at, ← t.1) refl

ended_takes : (ms : Members) (u : ⊤) → ended ms ≡ Ok u → ms ≡ no_members
ended_takes no_members u e = refl
ended_takes (member l d ms) u e = absurd cc

pub ended_codec : IsMembersCodec ended (λ _. no_members) Always
ended_codec = record { takes = λ ms u e. (ended_takes ms u e, tt); again = λ u h. refl }

module _ {A R : Type 0} (k : List ℕ) (f : Data → Result A TreeError) (tree : A → Data) (Fits : A → Type 0) (codec : IsCodec f tree Fits)
    (rest : Members → Result R TreeError) (members : R → Members) (RestFits : R → Type 0) (others : IsMembersCodec rest members RestFits) where
  abbrev pub members_then : A × R → Members
  members_then p = member k (tree p.0) (members p.1)

  abbrev pub FitsThen : A × R → Type 0
  FitsThen p = Fits p.0 × RestFits p.1

  next_takes : (ms : Members) (x : A × Members) → next k f ms ≡ Ok x → (ms ≡ member k (tree x.0) x.1) × Fits x.0
  unfolding next
  next_takes ms x e =
      let d = bind_ok (field k ms) (λ d. f d.0 >>= λ a. Ok (a, d.1)) x e in
      let a = bind_ok (f d.0.0) (λ a. Ok (a, d.0.1)) x d.2 in
      let t = codec.takes d.0.0 a.0 a.1 in
      subst (λ (y : A × Members). (ms ≡ member k (tree y.0) y.1) × Fits y.0) (ok_is (a.0, d.0.1) x a.2) (field_takes k ms d.0 d.1 ∙ ap (λ (u : Data). member k u d.0.1) t.0, t.1)

  then_takes : (ms : Members) (p : A × R) → with_field k f rest ms ≡ Ok p → (ms ≡ members_then p) × FitsThen p
  then_takes ms p e =
      let a = bind_ok (next k f ms) (λ a. rest a.1 >>= λ r. Ok (a.0, r)) p e in
      let r = bind_ok (rest a.0.1) (λ r. Ok (a.0.0, r)) p a.2 in
      let first = next_takes ms a.0 a.1 in
      let second = others.takes a.0.1 r.0 r.1 in
      subst (λ (q : A × R). (ms ≡ members_then q) × FitsThen q) (ok_is (a.0.0, r.0) p r.2) (first.0 ∙ ap (member k (tree a.0.0)) second.0, (first.1, second.1))

  then_again : (p : A × R) → FitsThen p → with_field k f rest (members_then p) ≡ Ok p
  unfolding next
  then_again p h = rw (equal_bytes k, codec.again p.0 h.0, others.again p.1 h.1) refl

  pub then_codec : IsMembersCodec (with_field k f rest) members_then FitsThen
  then_codec = record { takes = then_takes; again = then_again }

-- ---- objects

pub object_is : (d : Data) (ms : Members) → form_of (as_object d) ≡ Ok ms → d ≡ object ms
object_is (object ns) ms e = ap object (ok_is ns ms e)
object_is (array ds) ms e = absurd cc
object_is (string s) x e = absurd cc
object_is (number n) x e = absurd cc
object_is null x e = absurd cc
object_is (boolean b) x e = absurd cc

pub object_codec : {A : Type 0} (read : Members → Result A TreeError) (members : A → Members) (Fits : A → Type 0) → IsMembersCodec read members Fits
    → IsCodec (object_of read) (λ x. object (members x)) Fits
object_codec {A} read members Fits codec = record { takes = all_take; again = λ x h. codec.again x h }
  where
    all_take : (d : Data) (x : A) → object_of read d ≡ Ok x → (d ≡ object (members x)) × Fits x
    all_take d x e =
        let ms = bind_ok (form_of (as_object d)) read x e in
        let t = codec.takes ms.0 x ms.2 in
        (object_is d ms.0 ms.1 ∙ ap object t.0, t.1)

-- what is made of all members
pub built : {P B : Type 0} (read : Data → Result P TreeError) (tree : P → Data) (PartsFit : P → Type 0) → IsCodec read tree PartsFit
    → (make : P → B) (parts : B → P) (whole : B → Data) (Fits : B → Type 0)
    → ((b : B) → make (parts b) ≡ b) → ((p : P) → tree p ≡ whole (make p)) → ((p : P) → PartsFit p → Fits (make p)) → ((b : B) → Fits b → PartsFit (parts b))
    → IsCodec (λ d. read d >>= λ p. Ok (make p)) whole Fits
built {P} {B} read tree PartsFit codec make parts whole Fits same trees fits fit = record { takes = wrapped_takes read tree PartsFit codec make whole Fits trees fits; again = made_again }
  where
    made_again : (b : B) → Fits b → (read (whole b) >>= λ p. Ok (make p)) ≡ Ok b
    made_again b h =
        let here : tree (parts b) ≡ whole b = trees (parts b) ∙ ap whole (same b) in
        let found : read (whole b) ≡ Ok (parts b) = subst (λ (d : Data). read d ≡ Ok (parts b)) here (codec.again (parts b) (fit b h)) in
        rw found (ap Ok (same b))
