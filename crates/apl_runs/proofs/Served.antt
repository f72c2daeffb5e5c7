-- Sessions that are served one after the other.
use Rattle.std.proofs.Common.{◌≡◌, ℕ, zero, suc, ◌+◌, ◌<◌, ◌≤◌, List, [], ◌∷◌, ◌++◌, ap, ◌∙◌, sym, refl, subst, length, map, drop, get_or, slice_set, add-one, arith}
use Rattle.std.proofs.lemmas.List.{at_drop_more}
use Rattle.apl_machine_state.specs.State.{State}
use Rattle.apl_devices.specs.Devices.{Wrote, Extends}
use Rattle.apl_devices.proofs.Writing.{wrote-none, wrote-all, wrote-more, extends-first, extends-rest}
use Rattle.apl_runs.specs.Output.{labelled, silent}
use Rattle.apl_runs.specs.Rounds.{label, outputs}

-- the sessions when the first n of them are served
abbrev pub served : (State → State) → ℕ → List State → List State
served f zero xs = xs
served f (suc n) [] = []
served f (suc n) (x ∷ xs) = silent (f x) ∷ served f n xs

-- the next is as before,
next-served : (f : State → State) (n : ℕ) (xs : List State) (d : State) → get_or (served f n xs) n d ≡ get_or xs n d
next-served f zero xs d = refl
next-served f (suc n) [] d = refl
next-served f (suc n) (x ∷ xs) d = next-served f n xs d

next-in : (f : State → State) (n : ℕ) (xs now : List State) (d : State) → now ≡ served f n xs → d ≡ get_or now n d → d ≡ get_or xs n d
next-in f n xs now d e read = read ∙ ap (λ (ys : List State). get_or ys n d) e ∙ next-served f n xs d

pub next-session : (f : State → State) (n : ℕ) (xs now : List State) (d : State) → now ≡ served f n xs → d ≡ get_or now n d → get_or now n d ≡ get_or xs n (get_or now n d)
next-session f n xs now d e read = sym read ∙ next-in f n xs now d e read ∙ ap (λ (s : State). get_or xs n s) read

-- and then served
more-served : (f : State → State) (n : ℕ) (xs : List State) (d y : State) → n < length xs → y ≡ silent (f (get_or xs n d)) → slice_set (served f n xs) n y ≡ served f (suc n) xs
more-served f n [] d y w e = absurd (omega arith)
more-served f zero (x ∷ xs) d y w e = ap (λ (s : State). s ∷ xs) e
more-served f (suc n) (x ∷ xs) d y w e = ap (λ (rest : List State). silent (f x) ∷ rest) (more-served f n xs d y (omega arith) e)

pub served-more : (f : State → State) (n : ℕ) (xs now : List State) (x y : State) → n < length xs → x ≡ get_or xs n x → now ≡ served f n xs → y ≡ silent (f x) → slice_set now n y ≡ served f (n + 1) xs
served-more f n xs now x y w read e state =
    ap (λ (ys : List State). slice_set ys n y) e ∙ more-served f n xs x y w (state ∙ ap (λ (s : State). silent (f s)) read) ∙ ap (λ (k : ℕ). served f k xs) (sym (add-one n))

pub served-all : (f : State → State) (n : ℕ) (xs : List State) → length xs ≤ n → served f n xs ≡ map silent (map f xs)
served-all f zero [] w = refl
served-all f zero (x ∷ xs) w = absurd (omega arith)
served-all f (suc n) [] w = refl
served-all f (suc n) (x ∷ xs) w = ap (λ (rest : List State). silent (f x) ∷ rest) (served-all f n xs (omega arith))

-- what the sessions from number k on write begins with what that one writes
outputs-next : (f : State → State) (k : ℕ) (xs : List State) (x : State) → k < length xs → x ≡ get_or xs k x →
    outputs k (map f (drop k xs)) ≡ labelled (label k) (f x).output ++ outputs (k + 1) (map f (drop (k + 1) xs))
outputs-next f k xs x w read =
    at_drop_more (λ (ys : List State). outputs k (map f ys)) xs k x w
    ∙ ap (λ (y : State). labelled (label k) (f y).output ++ outputs (k + 1) (map f (drop (k + 1) xs))) (sym read)

-- and that is written
pub wrote-session : (f : State → State) (old mid new : List ℕ) (k : ℕ) (xs : List State) (x : State) → k < length xs → x ≡ get_or xs k x →
    Wrote old mid (outputs 0 (map f xs)) (outputs k (map f (drop k xs))) → new ≡ mid ++ labelled (label k) (f x).output →
    Wrote old new (outputs 0 (map f xs)) (outputs (k + 1) (map f (drop (k + 1) xs)))
wrote-session f old mid new k xs x w read before added =
    wrote-more old mid new (outputs 0 (map f xs)) (outputs k (map f (drop k xs))) (outputs (k + 1) (map f (drop (k + 1) xs))) before
    (record { prefix = labelled (label k) (f x).output; spelled = outputs-next f k xs x w read; added = added })

-- or a prefix of it
pub extends-session : (f : State → State) (old mid new : List ℕ) (k : ℕ) (xs : List State) (x : State) → k < length xs → x ≡ get_or xs k x →
    Wrote old mid (outputs 0 (map f xs)) (outputs k (map f (drop k xs))) → Extends mid new (labelled (label k) (f x).output) →
    Extends old new (outputs 0 (map f xs))
extends-session f old mid new k xs x w read before e =
    extends-rest old mid new (outputs 0 (map f xs)) (outputs k (map f (drop k xs))) before
    (subst (λ (t : List ℕ). Extends mid new t) (sym (outputs-next f k xs x w read))
    (extends-first mid new (labelled (label k) (f x).output) (outputs (k + 1) (map f (drop (k + 1) xs))) e))

pub ruleset serving = (wrote-none, wrote-all)
