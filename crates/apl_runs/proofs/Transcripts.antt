-- A transcript, some lines after others.
use Rattle.std.proofs.Common.{◌≡◌, ℕ, List, [], ◌∷◌, ◌++◌, ap, ◌∙◌, sym, refl, append_assoc, append-nil}
use Rattle.apl_runs.specs.Ways.{Way, IsInOrder}
use Rattle.apl_runs.specs.Transcript.{after_lines, transcript_of}

after_lines-append : {S : Type 0} (way : Way S) (s : S) (xs ys : List (List ℕ)) → after_lines way s (xs ++ ys) ≡ after_lines way (after_lines way s xs) ys
after_lines-append way s [] ys = refl
after_lines-append way s (line ∷ xs) ys = after_lines-append way (way.after_line s line) xs ys

module _ {S : Type 0} (way : Way S) (order : IsInOrder way) where
  -- lines leave first what stood to be written

  quiet-lines : (s : S) (lines : List (List ℕ)) → way.quiet (after_lines way (way.quiet s) lines) ≡ way.quiet (after_lines way s lines)
  quiet-lines s [] = order.still s
  quiet-lines s (line ∷ lines) =
      sym (quiet-lines (way.after_line (way.quiet s) line) lines)
      ∙ ap (λ (t : S). way.quiet (after_lines way t lines)) ((order.lines line).state s)
      ∙ quiet-lines (way.after_line s line) lines

  front-lines : (s : S) (lines : List (List ℕ)) → way.unwritten (after_lines way s lines) ≡ way.unwritten s ++ way.unwritten (after_lines way (way.quiet s) lines)
  front-lines s [] = sym (append-nil (way.unwritten s)) ∙ ap (λ (x : List ℕ). way.unwritten s ++ x) (sym (order.nothing s))
  front-lines s (line ∷ lines) =
      let made : S = way.after_line s line in
      let own : S = way.after_line (way.quiet s) line in
      let rest : S → List ℕ = λ t. way.unwritten (after_lines way t lines) in
      front-lines made lines
      ∙ ap (λ (x : List ℕ). x ++ rest (way.quiet made)) ((order.lines line).prefix s)
      ∙ append_assoc (way.unwritten s) (way.unwritten own) (rest (way.quiet made))
      ∙ ap (λ (t : S). way.unwritten s ++ (way.unwritten own ++ rest t)) (sym ((order.lines line).state s))
      ∙ ap (λ (x : List ℕ). way.unwritten s ++ x) (sym (front-lines own lines))

  -- Lines xs were done and what they write is written, which left t; lines ys follow.

  pub quiet-append : (s t : S) (xs ys : List (List ℕ)) → t ≡ way.quiet (after_lines way s xs) → way.quiet (after_lines way t ys) ≡ way.quiet (after_lines way s (xs ++ ys))
  quiet-append s t xs ys e =
      ap (λ (x : S). way.quiet (after_lines way x ys)) e ∙ quiet-lines (after_lines way s xs) ys ∙ ap way.quiet (sym (after_lines-append way s xs ys))

  pub transcript-append : (s t : S) (xs ys : List (List ℕ)) → t ≡ way.quiet (after_lines way s xs) → transcript_of way s (xs ++ ys) ≡ transcript_of way s xs ++ transcript_of way t ys
  transcript-append s t xs ys e =
      ap way.unwritten (after_lines-append way s xs ys)
      ∙ front-lines (after_lines way s xs) ys
      ∙ ap (λ (x : S). transcript_of way s xs ++ transcript_of way x ys) (sym e)

  -- and the input ends

  pub quiet-end : (s t : S) (xs ys : List (List ℕ)) → t ≡ way.quiet (after_lines way s xs) →
      way.quiet (way.at_end (after_lines way t ys)) ≡ way.quiet (way.at_end (after_lines way s (xs ++ ys)))
  quiet-end s t xs ys e =
      sym (order.end.state (after_lines way t ys))
      ∙ ap (λ (x : S). way.quiet (way.at_end x)) (quiet-append s t xs ys e)
      ∙ order.end.state (after_lines way s (xs ++ ys))

  pub transcript-end : (s t : S) (xs ys : List (List ℕ)) → t ≡ way.quiet (after_lines way s xs) →
      way.unwritten (way.at_end (after_lines way s (xs ++ ys))) ≡ transcript_of way s xs ++ way.unwritten (way.at_end (after_lines way t ys))
  transcript-end s t xs ys e =
      let after : S = after_lines way t ys in
      let last : S → List ℕ = λ x. way.unwritten (way.at_end x) in
      order.end.prefix (after_lines way s (xs ++ ys))
      ∙ ap (λ (x : S). transcript_of way s (xs ++ ys) ++ last x) (sym (quiet-append s t xs ys e))
      ∙ ap (λ (x : List ℕ). x ++ last (way.quiet after)) (transcript-append s t xs ys e)
      ∙ append_assoc (transcript_of way s xs) (way.unwritten after) (last (way.quiet after))
      ∙ ap (λ (x : List ℕ). transcript_of way s xs ++ x) (sym (order.end.prefix after))
