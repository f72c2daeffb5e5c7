-- Lines that are cut behind a line feed, and what they write.
use Rattle.std.proofs.Common.{◌≡◌, ℕ, List, [], ◌++◌, ap, ◌∙◌, sym, append_assoc, append-nil, map}
use Rattle.std.proofs.lemmas.List.{map-append}
use Rattle.apl_session.specs.Defining.{closed}
use Rattle.apl_runs.specs.Output.{silent}
use Rattle.apl_runs.specs.Sessions.{plain}
use Rattle.apl_runs.specs.declared.manner.Manner.TheVariants.{Plain}
use Rattle.apl_runs.proofs.Behind.{manner-in_order}
use Rattle.apl_runs.proofs.Reading.{ended-append, unfinished-append}
use Rattle.apl_runs.proofs.Transcripts.{quiet-append, transcript-append}
use Rattle.apl_played.specs.Laws.{CutCallsAreOne}
use Rattle.apl_played.specs.Playing.{state_after}
use Rattle.apl_played.proofs.Beginning.{closed-same}
use Rattle.apl_runs.specs.Transcript.{complete_lines, ended, ended_behind, last_line, lines_of, unfinished, unfinished_behind, without_return, after_lines, transcript_of}

complete-append : (first second : List ℕ) → unfinished first ≡ [] → complete_lines (first ++ second) ≡ complete_lines first ++ complete_lines second
complete-append first second e =
    ap (map without_return) (ended-append first second [] ∙ ap (λ (f : List ℕ). ended first ++ ended_behind f second) e)
    ∙ map-append without_return (ended first) (ended second)

-- nothing of the first input stands behind its last line feed, so its lines and those of the second are the lines of both
pub lines-append : (first second : List ℕ) → unfinished first ≡ [] → lines_of (first ++ second) ≡ lines_of first ++ lines_of second
lines-append first second e =
    ap (λ (x : List (List ℕ)). x ++ last_line (unfinished (first ++ second))) (complete-append first second e)
    ∙ ap (λ (x : List ℕ). (complete_lines first ++ complete_lines second) ++ last_line x) (unfinished-append first second [] ∙ ap (λ (f : List ℕ). unfinished_behind f second) e)
    ∙ append_assoc (complete_lines first) (complete_lines second) (last_line (unfinished second))
    ∙ ap (λ (x : List (List ℕ)). x ++ lines_of second) (sym (ap (λ (x : List ℕ). complete_lines first ++ last_line x) e ∙ append-nil (complete_lines first)))

-- THE LAW
pub calls-join : CutCallsAreOne
calls-join steps s first second ends shut =
    let xs : List (List ℕ) = lines_of first in
    let ys : List (List ℕ) = lines_of second in
    let left : state_after steps s first ≡ silent (after_lines (plain steps) s xs) = closed-same (silent (after_lines (plain steps) s xs)) shut in
    let all : lines_of (first ++ second) ≡ xs ++ ys = lines-append first second ends in
    let order = manner-in_order (Plain steps) in (
      sym (ap (λ (ls : List (List ℕ)). transcript_of (plain steps) s ls) all ∙ transcript-append (plain steps) order s (state_after steps s first) xs ys left),
      ap closed (quiet-append (plain steps) order s (state_after steps s first) xs ys left ∙ ap (λ (ls : List (List ℕ)). silent (after_lines (plain steps) s ls)) (sym all)),
    )
