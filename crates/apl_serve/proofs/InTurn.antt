-- Requests that are answered one after the other.
use Rattle.std.proofs.Common.{◌≡◌, ℕ, List, [], ◌∷◌, ◌++◌, Bool, true, false, inl, inr, refl, sym, ap, ◌∙◌, subst, append_assoc, append-nil, length, length-append, ◌+◌, arith}
use Rattle.std.specs.Prelude.{IsTrue, Ok, Err}
use Rattle.apl_devices.specs.Devices.{Extends}
use Rattle.apl_machine_state.specs.State.{State}
use Rattle.apl_serve.specs.Answers.{Answers}
use Rattle.apl_serve.specs.Serving.{BeginsWith, BeginWith, AnswersAll, ReadPiece, EndsServing, endless, HasServed, StoppedReading, FailedToWrite}
use Rattle.apl_serve.specs.declared.error.ServeError.{ServeError}
use Rattle.apl_serve.specs.declared.error.ServeError.TheVariants.{Read, Write, TooMany}
use Rattle.apl_serve.specs.inside.Parts.{ServesOne}

-- So far: so many requests were read, and the answers to all of them written.
pub record Served (s s' : State) (before after : List ℕ) (tells : Bool) (old new : List ℕ) (count : ℕ) : Type 0 where
  pub requests : List (List ℕ)
  pub counted : length requests ≡ count
  pub read : BeginWith requests before after
  pub answers : List ℕ
  pub answered : AnswersAll s requests s' answers
  pub wrote : IsTrue tells → new ≡ old ++ answers

pub served-none : (s : State) (before : List ℕ) (tells : Bool) (old : List ℕ) → Served s s before before tells old old 0
served-none s before tells old = record { requests = []; counted = refl; read = refl; answers = []; answered = (refl, refl); wrote = λ _. sym (append-nil old) }

read-more : (requests : List (List ℕ)) (request before mid after : List ℕ) → BeginWith requests before mid → BeginsWith request mid after → BeginWith (requests ++ request ∷ []) before after
read-more [] request before mid after e h = (after, subst (λ (it : List ℕ). BeginsWith request it after) e h, refl)
read-more (first ∷ requests) request before mid after r h = (r.0, r.1, read-more requests request r.0 mid after r.2 h)

answers-more : (s t u : State) (requests : List (List ℕ)) (request answers answer : List ℕ) → AnswersAll s requests t answers → Answers t request u answer → AnswersAll s (requests ++ request ∷ []) u (answers ++ answer)
answers-more s t u [] request answers answer a h =
    (u, answer, [], subst (λ (it : State). Answers it request u answer) a.0 h, (refl, refl), ap (λ (it : List ℕ). it ++ answer) a.1 ∙ sym (append-nil answer))
answers-more s t u (first ∷ requests) request answers answer a h =
    (a.0, a.1, a.2 ++ answer, a.3, answers-more a.0 t u requests request a.2 answer a.4 h, ap (λ (it : List ℕ). it ++ answer) a.5 ∙ append_assoc a.1 a.2 answer)

-- one request more is answered
pub served-more : (s t u : State) (before mid after : List ℕ) (tells : Bool) (old written new request answer : List ℕ) (count : ℕ) → Served s t before mid tells old written count
    → BeginsWith request mid after → Answers t request u answer → (IsTrue tells → new ≡ written ++ answer) → Served s u before after tells old new (count + 1)
served-more s t u before mid after tells old written new request answer count served begins answers wrote = record {
  requests = served.requests ++ request ∷ [];
  counted = omega (arith, length-append served.requests (request ∷ []), served.counted);
  read = read-more served.requests request before mid after served.read begins;
  answers = served.answers ++ answer;
  answered = answers-more s t u served.requests request served.answers answer served.answered answers;
  wrote = λ it. wrote it ∙ ap (λ (w : List ℕ). w ++ answer) (served.wrote it) ∙ append_assoc old served.answers answer;
}

-- the input is at its end
pub served-all : (s t u : State) (before mid after : List ℕ) (tells : Bool) (old written new : List ℕ) (count : ℕ) → Served s t before mid tells old written count
    → u ≡ t → mid ≡ [] → after ≡ [] → (IsTrue tells → new ≡ written) → HasServed s u before after tells old new
served-all s t u before mid after tells old written new count served same all end wrote = record {
  requests = served.requests;
  read = subst (λ (it : List ℕ). BeginWith served.requests before it) all served.read;
  end = end;
  answers = served.answers;
  answered = subst (λ (it : State). AnswersAll s served.requests it served.answers) (sym same) served.answered;
  wrote = λ it. wrote it ∙ served.wrote it;
}

abbrev pub served-unread : (s t u : State) (before mid after piece : List ℕ) (tells : Bool) (old written new : List ℕ) (count : ℕ) → Served s t before mid tells old written count
    → u ≡ t → ReadPiece piece mid after → (IsTrue tells → new ≡ written) → StoppedReading s u before after tells old new
served-unread s t u before mid after piece tells old written new count served same begun wrote = record {
  requests = served.requests;
  rest = mid;
  read = served.read;
  piece = piece;
  begun = begun;
  answers = served.answers;
  answered = subst (λ (it : State). AnswersAll s served.requests it served.answers) (sym same) served.answered;
  wrote = λ it. wrote it ∙ served.wrote it;
}

pub served-unwritten : (s t u : State) (before mid after : List ℕ) (tells : Bool) (old written new request answer : List ℕ) (count : ℕ) → Served s t before mid tells old written count
    → BeginsWith request mid after → Answers t request u answer → (IsTrue tells → Extends written new answer) → FailedToWrite s u before after tells old new
served-unwritten s t u before mid after tells old written new request answer count served begins answers wrote = record {
  requests = served.requests;
  rest = mid;
  read = served.read;
  last = request;
  read_last = begins;
  answers = served.answers;
  before_last = t;
  answered = served.answered;
  answer = answer;
  answered_last = answers;
  wrote = λ it. subst (λ (w : List ℕ). Extends w new answer) (served.wrote it) (wrote it);
}

-- so many requests were read that no more are
pub served-many : (s t : State) (before mid : List ℕ) (tells : Bool) (old written : List ℕ) (count : ℕ) → Served s t before mid tells old written count
    → count ≡ endless → EndsServing {A = Unit {0}} (Err TooMany) s t before mid tells old written
served-many s t before mid tells old written count served all = (
  record {
    requests = served.requests;
    rest = mid;
    read = served.read;
    piece = [];
    begun = (refl, refl);
    answers = served.answers;
    answered = served.answered;
    wrote = served.wrote;
  },
  inl (served.counted ∙ all),
)

-- What one round does, behind the rounds before it.

pub round-served : (more : Bool) (s t u : State) (before mid after : List ℕ) (tells : Bool) (old written new : List ℕ) (count : ℕ) → more ≡ true
    → Served s t before mid tells old written count → ServesOne (Ok more) t u mid after tells written new → Served s u before after tells old new (count + 1)
round-served false s t u before mid after tells old written new count some served one = absurd (cc)
round-served true s t u before mid after tells old written new count some served one =
    served-more s t u before mid after tells old written new one.0 one.2.0 count served one.1 one.2.1 one.2.2

pub round-failed : (e : ServeError) (s t u : State) (before mid after : List ℕ) (tells : Bool) (old written new : List ℕ) (count : ℕ) → Served s t before mid tells old written count
    → ServesOne (Err e) t u mid after tells written new → EndsServing {A = Unit {0}} (Err e) s u before after tells old new
round-failed Read s t u before mid after tells old written new count served one =
    served-unread s t u before mid after one.1.0 tells old written new count served one.0 one.1.1 one.2
round-failed TooMany s t u before mid after tells old written new count served one =
    (served-unread s t u before mid after one.1.0 tells old written new count served one.0 one.1.1 one.2, inr one.1.2)
round-failed Write s t u before mid after tells old written new count served one =
    served-unwritten s t u before mid after tells old written new one.0 one.2.0 count served one.1 one.2.1 one.2.2
