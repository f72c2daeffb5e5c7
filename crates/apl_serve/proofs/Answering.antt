-- What reading a request and writing its answer does.
use Rattle.std.proofs.Common.{ℕ, List, Bool, true, inl, refl}
use Rattle.std.specs.Prelude.{Result, Ok, Err}
use Rattle.std.specs.Global.{Vec}
use Rattle.apl_machine_state.specs.State.{State}
use Rattle.apl_serve.specs.Answers.{DoesBytes, Outcome, answer_of}
use Rattle.apl_serve.specs.Refusals.{refusal_tree}
use Rattle.apl_serve.specs.inside.Parts.{IsUnkept, ReadsRequest, ServesOne, Writes, WritesAnswer}
use Rattle.apl_serve.specs.Trees.{line_of}
use Rattle.apl_serve.specs.declared.error.Refusal.{Refusal}
use Rattle.apl_serve.specs.declared.error.Refusal.TheVariants as refusal
use Rattle.apl_serve.specs.declared.error.ServeError.{ServeError}
use Rattle.apl_serve.specs.declared.error.ServeError.TheVariants.{Read, Write, TooMany}
use Rattle.apl_serve.specs.declared.lines.Line.TheVariants.{Whole, Dropped}

pub answer_written : {A : Type 0} (result : Result A ServeError) (s s' : State) (request : List ℕ) (outcome : Outcome) (tells : Bool) (old new : List ℕ)
    → DoesBytes request s outcome s' → Writes result (answer_of outcome) tells old new → WritesAnswer result s request s' tells old new
answer_written (Ok x) s s' request outcome tells old new does writes = (answer_of outcome, (outcome, does, refl), writes)
answer_written (Err Write) s s' request outcome tells old new does writes = (answer_of outcome, (outcome, does, refl), writes)
answer_written (Err Read) s s' request outcome tells old new does writes = absurd writes
answer_written (Err TooMany) s s' request outcome tells old new does writes = absurd writes

-- a request that was dropped
unkept_done : (e : Refusal) (request : List ℕ) (s : State) → IsUnkept request e → DoesBytes request s (Err e) s
unkept_done refusal.Length request s unkept = (unkept, refl)
unkept_done refusal.Memory request s unkept = inl refl
unkept_done refusal.Json request s unkept = absurd unkept
unkept_done refusal.Request request s unkept = absurd unkept
unkept_done refusal.Line request s unkept = absurd unkept
unkept_done refusal.Running request s unkept = absurd unkept
unkept_done refusal.Function request s unkept = absurd unkept
unkept_done refusal.Value request s unkept = absurd unkept
unkept_done refusal.Answer request s unkept = absurd unkept
unkept_done (refusal.Load e) request s unkept = absurd unkept

pub refusal_written : {A : Type 0} (result : Result A ServeError) (e : Refusal) (request : List ℕ) (s : State) (tells : Bool) (old new : List ℕ)
    → IsUnkept request e → Writes result (line_of (refusal_tree e)) tells old new → WritesAnswer result s request s tells old new
refusal_written result e request s tells old new unkept writes = answer_written result s s request (Err e) tells old new (unkept_done e request s unkept) writes

pub served_whole : (request : Vec ℕ) (s s' : State) (before after : List ℕ) (tells : Bool) (old new : List ℕ) → ReadsRequest before (Ok (Whole request)) after
    → WritesAnswer {A = Unit {0}} (Ok tt) s request.items s' tells old new → ServesOne (Ok true) s s' before after tells old new
served_whole request s s' before after tells old new reads writes = (request.items, reads.0, writes)

pub unserved_whole : (e : ServeError) (request : Vec ℕ) (s s' : State) (before after : List ℕ) (tells : Bool) (old new : List ℕ) → ReadsRequest before (Ok (Whole request)) after
    → WritesAnswer {A = Unit {0}} (Err e) s request.items s' tells old new → ServesOne (Err e) s s' before after tells old new
unserved_whole Write request s s' before after tells old new reads writes = (request.items, reads.0, writes)
unserved_whole Read request s s' before after tells old new reads writes = absurd writes
unserved_whole TooMany request s s' before after tells old new reads writes = absurd writes

pub served_dropped : (e : Refusal) (s : State) (before after : List ℕ) (tells : Bool) (old new : List ℕ) → ReadsRequest before (Ok (Dropped e)) after
    → Writes {A = Unit {0}} (Ok tt) (line_of (refusal_tree e)) tells old new → ServesOne (Ok true) s s before after tells old new
served_dropped e s before after tells old new reads writes =
    (reads.0, reads.1, refusal_written {A = Unit {0}} (Ok tt) e reads.0 s tells old new reads.2 writes)

pub unserved_dropped : (f : ServeError) (e : Refusal) (s : State) (before after : List ℕ) (tells : Bool) (old new : List ℕ) → ReadsRequest before (Ok (Dropped e)) after
    → Writes {A = Unit {0}} (Err f) (line_of (refusal_tree e)) tells old new → ServesOne (Err f) s s before after tells old new
unserved_dropped Write e s before after tells old new reads writes =
    (reads.0, reads.1, refusal_written {A = Unit {0}} (Err Write) e reads.0 s tells old new reads.2 writes)
unserved_dropped Read e s before after tells old new reads writes = absurd writes
unserved_dropped TooMany e s before after tells old new reads writes = absurd writes

pub unserved_unread : (e : ServeError) (s : State) (before after : List ℕ) (tells : Bool) (old : List ℕ) → ReadsRequest before (Err e) after → ServesOne (Err e) s s before after tells old old
unserved_unread Read s before after tells old reads = (refl, reads, λ _. refl)
unserved_unread TooMany s before after tells old reads = (refl, reads, λ _. refl)
unserved_unread Write s before after tells old reads = absurd reads
