-- A text that is written in parts.
use Rattle.std.proofs.Common.{◌≡◌, ℕ, List, [], ◌++◌, take, drop, ap, ◌∙◌, sym, refl, append_assoc, append-nil}
use Rattle.std.proofs.lemmas.List.{take-append-drop}
use Rattle.apl_devices.specs.Devices.{Wrote, Extends}

-- nothing yet
pub wrote-none : (old text : List ℕ) → Wrote old old text text
wrote-none old text = record { prefix = []; spelled = refl; added = sym (append-nil old) }

-- all of it
pub wrote-all : (old new text : List ℕ) → Wrote old new text [] → new ≡ old ++ text
wrote-all old new text w = w.added ∙ ap (λ (prefix : List ℕ). old ++ prefix) (sym (append-nil w.prefix) ∙ sym w.spelled)

-- a part, and then a part of the rest
pub wrote-more : (old mid new text rest rest' : List ℕ) → Wrote old mid text rest → Wrote mid new rest rest' → Wrote old new text rest'
wrote-more old mid new text rest rest' a b = record {
  prefix = a.prefix ++ b.prefix;
  spelled = a.spelled ∙ ap (λ (r : List ℕ). a.prefix ++ r) b.spelled ∙ sym (append_assoc a.prefix b.prefix rest');
  added = b.added ∙ ap (λ (m : List ℕ). m ++ b.prefix) a.added ∙ append_assoc old a.prefix b.prefix;
}

-- the first bytes
pub wrote-take : (old new text : List ℕ) (n : ℕ) → new ≡ old ++ take n text → Wrote old new text (drop n text)
wrote-take old new text n e = record { prefix = take n text; spelled = sym (take-append-drop n text); added = e }

-- a prefix so far
pub extends-wrote : (old new text rest : List ℕ) → Wrote old new text rest → Extends old new text
extends-wrote old new text rest w = record { prefix = w.prefix; rest = rest; spelled = w.spelled; added = w.added }

-- nothing was written
pub extends-none : (old new text : List ℕ) → new ≡ old → Extends old new text
extends-none old new text e = record { prefix = []; rest = text; spelled = refl; added = e ∙ sym (append-nil old) }

-- a prefix of the first part
pub extends-first : (old new part more : List ℕ) → Extends old new part → Extends old new (part ++ more)
extends-first old new part more x = record {
  prefix = x.prefix;
  rest = x.rest ++ more;
  spelled = ap (λ (p : List ℕ). p ++ more) x.spelled ∙ append_assoc x.prefix x.rest more;
  added = x.added;
}

-- the first part, and a prefix of the second
pub extends-second : (old mid new part more : List ℕ) → mid ≡ old ++ part → Extends mid new more → Extends old new (part ++ more)
extends-second old mid new part more e x = record {
  prefix = part ++ x.prefix;
  rest = x.rest;
  spelled = ap (λ (p : List ℕ). part ++ p) x.spelled ∙ sym (append_assoc part x.prefix x.rest);
  added = x.added ∙ ap (λ (p : List ℕ). p ++ x.prefix) e ∙ append_assoc old part x.prefix;
}

-- after a part of the text, a prefix of the rest
pub extends-rest : (old mid new text rest : List ℕ) → Wrote old mid text rest → Extends mid new rest → Extends old new text
extends-rest old mid new text rest w x = record {
  prefix = w.prefix ++ x.prefix;
  rest = x.rest;
  spelled = w.spelled ∙ ap (λ (p : List ℕ). w.prefix ++ p) x.spelled ∙ sym (append_assoc w.prefix x.prefix x.rest);
  added = x.added ∙ ap (λ (p : List ℕ). p ++ x.prefix) w.added ∙ append_assoc old w.prefix x.prefix;
}

pub ruleset writing = (wrote-none, wrote-all, wrote-more, wrote-take, extends-wrote, extends-none, extends-first, extends-second)
