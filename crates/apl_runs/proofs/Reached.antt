-- A run, line after line.
use Rattle.std.proofs.Common.{◌≡◌, ◌≢◌, ℕ, ◌+◌, ◌≤◌, ◌<◌, List, [], ◌∷◌, ◌++◌, Bool, true, false, ap, ◌∙◌, sym, refl, append_assoc, append-nil, length, length-append, map, arith, subst}
use Rattle.std.specs.Prelude.{IsTrue, Result, Ok, Err, OnOk}
use Rattle.std.specs.List.{AllByRecursion}
use Rattle.apl_runs.specs.Transcript.{ended, unfinished, complete_lines, last_line, lines_of, without_return, after_lines, transcript_of, transcript}
use Rattle.apl_devices.specs.Devices.{Extends}
use Rattle.apl_runs.specs.Ways.{Way, IsInOrder}
use Rattle.apl_runs.specs.Runs.{IsWithinLimits, HasEnded, IsDue, IsInTurn, IsWritten, text_taken, StoppedAt, EndsRun, StopsWriting, Writes, ReadsLine, ReadsEnd, IsPiece, BeginsWithLine, IsLast}
use Rattle.apl_runs.specs.declared.runs.RunError.{RunError}
use Rattle.apl_runs.specs.declared.runs.RunError.TheVariants.{Read, Write, Memory, LineTooLong, TooManyLines}
use Rattle.apl_runs.proofs.Reading.{ended-behind_line, unfinished-behind_line, ended-behind_piece, unfinished-behind_piece, map-append_one, all-append_one, unbroken-more, last_line-length, complete-length}
use Rattle.apl_runs.proofs.Transcripts.{quiet-append, transcript-append, quiet-end, transcript-end}
use Rattle.apl_devices.proofs.Writing.{extends-first, extends-second}

-- Where a run stands between two lines: it took so many whole lines, and the state and the bytes written are what they come to.
pub record Reached {S : Type 0} (way : Way S) (ws : S) (before after : List ℕ) (tells : Bool) (old new : List ℕ) (s : S) (count : ℕ) : Type 0 where
  pub taken : List ℕ
  pub read : before ≡ taken ++ after
  pub whole : unfinished taken ≡ []
  pub short : AllByRecursion (λ line. length line ≤ 2000) (ended taken)
  pub counted : length (ended taken) ≡ count
  pub state : s ≡ way.quiet (after_lines way ws (complete_lines taken))
  pub wrote : IsTrue tells → new ≡ old ++ transcript_of way ws (complete_lines taken)

-- all lines of an input whose complete lines and rest these are
lines-behind : (taken : List ℕ) (xs : List (List ℕ)) (rest : List ℕ) → complete_lines taken ≡ xs → unfinished taken ≡ rest → lines_of taken ≡ xs ++ last_line rest
lines-behind taken xs rest e f = ap (λ (ys : List (List ℕ)). ys ++ last_line (unfinished taken)) e ∙ ap (λ (r : List ℕ). xs ++ last_line r) f

-- an input that ends with a line feed has no further line
lines-whole : (taken : List ℕ) → unfinished taken ≡ [] → lines_of taken ≡ complete_lines taken
lines-whole taken whole = lines-behind taken (complete_lines taken) [] refl whole ∙ append-nil (complete_lines taken)

within : (taken : List ℕ) (count : ℕ) → AllByRecursion (λ line. length line ≤ 2000) (ended taken) → length (unfinished taken) ≤ 2000 →
    length (ended taken) ≡ count → count + length (last_line (unfinished taken)) ≤ 1000000 → IsWithinLimits taken
within taken count short rest counted few = record {
  ended_short = short;
  unfinished_short = rest;
  few = omega (arith, few, length-append (complete_lines taken) (last_line (unfinished taken)), complete-length (ended taken));
}

within-whole : (taken : List ℕ) (count : ℕ) → unfinished taken ≡ [] → AllByRecursion (λ line. length line ≤ 2000) (ended taken) → length (ended taken) ≡ count → count ≤ 1000000 → IsWithinLimits taken
within-whole taken count whole short counted few =
    within taken count short (subst (λ (xs : List ℕ). length xs ≤ 2000) (sym whole) (omega arith)) counted
    (subst (λ (xs : List ℕ). count + length (last_line xs) ≤ 1000000) (sym whole) (omega arith))

-- A line feed more is taken.

read-line : (taken piece before left left' : List ℕ) → before ≡ taken ++ left → left ≡ piece ++ 10 ∷ left' → before ≡ (taken ++ piece ++ 10 ∷ []) ++ left'
read-line taken piece before left left' e f =
    e ∙ ap (λ (x : List ℕ). taken ++ x) f ∙ sym (append_assoc taken piece (10 ∷ left')) ∙ sym (append_assoc (taken ++ piece) (10 ∷ []) left')

complete-line : (taken piece line : List ℕ) → ended (taken ++ piece ++ 10 ∷ []) ≡ ended taken ++ piece ∷ [] → line ≡ without_return piece →
    complete_lines (taken ++ piece ++ 10 ∷ []) ≡ complete_lines taken ++ line ∷ []
complete-line taken piece line e f =
    ap (map without_return) e ∙ map-append_one (ended taken) piece ∙ ap (λ (l : List ℕ). complete_lines taken ++ l ∷ []) (sym f)

-- What a run took when a line more is read.
pub record Took (taken : List ℕ) (count : ℕ) (line before left : List ℕ) : Type 0 where
  pub all : List ℕ
  pub read : before ≡ all ++ left
  pub whole : unfinished all ≡ []
  pub short : AllByRecursion (λ line. length line ≤ 2000) (ended all)
  pub counted : length (ended all) ≡ count + 1
  pub lines : complete_lines all ≡ complete_lines taken ++ line ∷ []

took : (taken before left left' line : List ℕ) (count : ℕ) → before ≡ taken ++ left → unfinished taken ≡ [] → AllByRecursion (λ line. length line ≤ 2000) (ended taken) →
    length (ended taken) ≡ count → BeginsWithLine line left left' → Took taken count line before left'
took taken before left left' line count read whole short counted b =
    let lines : ended (taken ++ b.piece ++ 10 ∷ []) ≡ ended taken ++ b.piece ∷ [] = ended-behind_line taken b.piece whole b.is_piece.unbroken in
    record {
      all = taken ++ b.piece ++ 10 ∷ [];
      read = read-line taken b.piece before left left' read b.read;
      whole = unfinished-behind_line taken b.piece whole b.is_piece.unbroken;
      short = subst (λ (xs : List (List ℕ)). AllByRecursion (λ line. length line ≤ 2000) xs) (sym lines) (all-append_one (λ line. length line ≤ 2000) (ended taken) b.piece short b.is_piece.short);
      counted = ap length lines ∙ length-append (ended taken) (b.piece ∷ []) ∙ ap (λ (k : ℕ). k + 1) counted;
      lines = complete-line taken b.piece line lines b.kept;
    }

due-writing : (e : RunError) (taken : List ℕ) → StopsWriting e → IsDue e taken []
due-writing Write taken h = refl
due-writing Memory taken h = refl
due-writing Read taken h = absurd h
due-writing LineTooLong taken h = absurd h
due-writing TooManyLines taken h = absurd h

reads-line : (old new line shown : List ℕ) (is_ended : Bool) → is_ended ≡ true → shown ≡ line → ReadsLine old (Ok is_ended) line new → BeginsWithLine shown old new
reads-line old new line shown true e f h = record { piece = h.piece; is_piece = h.is_piece; read = h.read; kept = f ∙ h.kept }
reads-line old new line shown false e f h = cc

reads-last : (old new line shown : List ℕ) (is_ended : Bool) → is_ended ≡ false → shown ≡ line → ReadsLine old (Ok is_ended) line new → IsLast shown old new
reads-last old new line shown false e f h = record { is_piece = subst IsPiece (sym f) h.is_piece; read = h.read ∙ sym f; end = h.end }
reads-last old new line shown true e f h = cc

-- A piece was read that no line feed ends.

within-piece : (taken piece : List ℕ) (count : ℕ) → unfinished taken ≡ [] → AllByRecursion (λ line. length line ≤ 2000) (ended taken) → length (ended taken) ≡ count → IsPiece piece →
    count < 1000000 → IsWithinLimits (taken ++ piece)
within-piece taken piece count whole short counted p few =
    let lines : ended (taken ++ piece) ≡ ended taken = ended-behind_piece taken piece whole p.unbroken in
    let rest : unfinished (taken ++ piece) ≡ piece = unfinished-behind_piece taken piece whole p.unbroken in
    within (taken ++ piece) count
    (subst (λ (xs : List (List ℕ)). AllByRecursion (λ line. length line ≤ 2000) xs) (sym lines) short)
    (subst (λ (xs : List ℕ). length xs ≤ 2000) (sym rest) p.short)
    (ap length lines ∙ counted)
    (subst (λ (xs : List ℕ). count + length (last_line xs) ≤ 1000000) (sym rest) (omega (arith, few, last_line-length piece)))

complete-piece : (taken piece : List ℕ) → unfinished taken ≡ [] → IsPiece piece → complete_lines (taken ++ piece) ≡ complete_lines taken
complete-piece taken piece whole p = ap (map without_return) (ended-behind_piece taken piece whole p.unbroken)

lines-piece : (taken piece : List ℕ) → unfinished taken ≡ [] → IsPiece piece → lines_of (taken ++ piece) ≡ complete_lines taken ++ last_line piece
lines-piece taken piece whole p = lines-behind (taken ++ piece) (complete_lines taken) piece (complete-piece taken piece whole p) (unfinished-behind_piece taken piece whole p.unbroken)

read-all : (taken line before left left' : List ℕ) → before ≡ taken ++ left → IsLast line left left' → before ≡ taken ++ line
read-all taken line before left left' e b = e ∙ ap (λ (x : List ℕ). taken ++ x) b.read

-- a byte more of a line
piece-more : (piece : List ℕ) (byte : ℕ) → IsPiece piece → byte ≢ 10 → length piece < 2000 → IsPiece (piece ++ byte ∷ [])
piece-more piece byte p other room = record {
  unbroken = unbroken-more piece byte p.unbroken other;
  short = omega (arith, length-append piece (byte ∷ []));
}

-- These lines have written all that they write, and at most one more was taken.
in-turn : {S : Type 0} (way : Way S) (ws : S) (taken old mid new : List ℕ) (first lines : List (List ℕ)) → length lines ≤ 1 → lines_of taken ≡ first ++ lines →
    mid ≡ old ++ transcript_of way ws first → (more : List ℕ) → new ≡ mid ++ more → IsInTurn way ws taken old new
in-turn way ws taken old mid new first lines one all wrote more behind = record {
  done = first;
  last = lines;
  one = one;
  lines = all;
  more = more;
  wrote = behind ∙ ap (λ (m : List ℕ). m ++ more) wrote;
}

module _ {S : Type 0} (way : Way S) (order : IsInOrder way) where
  reached-took : (ws : S) (before left left' : List ℕ) (tells : Bool) (old mid new : List ℕ) (s s' : S) (count : ℕ) (line : List ℕ)
      (r : Reached way ws before left tells old mid s count) → Took r.taken count line before left' →
      s' ≡ way.quiet (way.after_line s line) → (IsTrue tells → new ≡ mid ++ way.unwritten (way.after_line s line)) →
      Reached way ws before left' tells old new s' (count + 1)
  reached-took ws before left left' tells old mid new s s' count line r k state wrote = record {
    taken = k.all;
    read = k.read;
    whole = k.whole;
    short = k.short;
    counted = k.counted;
    state = state ∙ quiet-append way order ws s (complete_lines r.taken) (line ∷ []) r.state ∙ ap (λ (xs : List (List ℕ)). way.quiet (after_lines way ws xs)) (sym k.lines);
    wrote = λ t. wrote t
        ∙ ap (λ (m : List ℕ). m ++ transcript_of way s (line ∷ [])) (r.wrote t)
        ∙ append_assoc old (transcript_of way ws (complete_lines r.taken)) (transcript_of way s (line ∷ []))
        ∙ ap (λ (x : List ℕ). old ++ x) (sym (transcript-append way order ws s (complete_lines r.taken) (line ∷ []) r.state))
        ∙ ap (λ (xs : List (List ℕ)). old ++ transcript_of way ws xs) (sym k.lines);
  }

  written-writing : (e : RunError) (ws : S) (taken after old new : List ℕ) → StopsWriting e → Extends old new (text_taken way ws taken after) → IsWritten e way ws taken after old new
  written-writing Write ws taken after old new h x = x
  written-writing Memory ws taken after old new h x = x
  written-writing Read ws taken after old new h x = absurd h
  written-writing LineTooLong ws taken after old new h x = absurd h
  written-writing TooManyLines ws taken after old new h x = absurd h

  -- an error of doing what was taken last
  stopped-writing : (e : RunError) (ws : S) (before left' taken : List ℕ) (tells : Bool) (old new : List ℕ) → before ≡ taken ++ left' → IsWithinLimits taken → StopsWriting e →
      (IsTrue tells → Extends old new (text_taken way ws taken left')) → (IsTrue tells → IsInTurn way ws taken old new) → StoppedAt e way ws before left' tells old new
  stopped-writing e ws before left' taken tells old new read fits h x turn = record {
    taken = taken;
    refused = [];
    read = read ∙ ap (λ (t : List ℕ). t ++ left') (sym (append-nil taken));
    within = fits;
    due = due-writing e taken h;
    wrote = λ t. written-writing e ws taken left' old new h (x t);
    in_turn = turn;
  }

  -- a prefix of what whole lines write is one of what may be written
  extends-whole : (ws : S) (taken after old new : List ℕ) → unfinished taken ≡ [] → Extends old new (transcript_of way ws (complete_lines taken)) → Extends old new (text_taken way ws taken after)
  extends-whole ws taken (b ∷ after) old new whole x = x
  extends-whole ws taken [] old new whole x =
      let lines : transcript way ws taken ≡ way.unwritten (way.at_end (after_lines way ws (complete_lines taken))) =
      ap (λ (xs : List (List ℕ)). way.unwritten (way.at_end (after_lines way ws xs))) (lines-whole taken whole) in
      subst (λ (text : List ℕ). Extends old new text) (sym (lines ∙ order.end.prefix (after_lines way ws (complete_lines taken))))
      (extends-first old new (transcript_of way ws (complete_lines taken)) (way.unwritten (way.at_end (way.quiet (after_lines way ws (complete_lines taken))))) x)

  -- A line was read,

  -- and is done
  pub reached-line : (ws : S) (before left left' : List ℕ) (tells : Bool) (old mid new : List ℕ) (s s' : S) (count : ℕ) (line shown : List ℕ) (is_ended : Bool) →
      Reached way ws before left tells old mid s count → is_ended ≡ true → shown ≡ line → ReadsLine left (Ok is_ended) line left' →
      s' ≡ way.quiet (way.after_line s shown) → (IsTrue tells → new ≡ mid ++ way.unwritten (way.after_line s shown)) →
      Reached way ws before left' tells old new s' (count + 1)
  reached-line ws before left left' tells old mid new s s' count line shown is_ended r e f h state wrote =
      reached-took ws before left left' tells old mid new s s' count shown r
      (took r.taken before left left' shown count r.read r.whole r.short r.counted (reads-line left left' line shown is_ended e f h)) state wrote

  -- and doing it has failed
  pub stopped-line : (e : RunError) (ws : S) (before left left' : List ℕ) (tells : Bool) (old mid new : List ℕ) (s : S) (count : ℕ) (line shown : List ℕ) (is_ended : Bool) →
      Reached way ws before left tells old mid s count → count < 1000000 → is_ended ≡ true → shown ≡ line → ReadsLine left (Ok is_ended) line left' →
      Writes {A = Unit {0}} (Err e) (way.unwritten (way.after_line s shown)) tells mid new → StoppedAt e way ws before left' tells old new
  stopped-line e ws before left left' tells old mid new s count line shown is_ended r few is f h x =
      let k : Took r.taken count shown before left' = took r.taken before left left' shown count r.read r.whole r.short r.counted (reads-line left left' line shown is_ended is f h) in
      let before_it : List ℕ = transcript_of way ws (complete_lines r.taken) in
      stopped-writing e ws before left' k.all tells old new k.read (within-whole k.all (count + 1) k.whole k.short k.counted (omega arith)) x.0
      (λ t. extends-whole ws k.all left' old new k.whole
      (subst (λ (xs : List (List ℕ)). Extends old new (transcript_of way ws xs)) (sym k.lines)
      (subst (λ (text : List ℕ). Extends old new text) (sym (transcript-append way order ws s (complete_lines r.taken) (shown ∷ []) r.state))
      (extends-second old mid new before_it (transcript_of way s (shown ∷ [])) (r.wrote t) (x.1 t)))))
      (λ t. in-turn way ws k.all old mid new (complete_lines r.taken) (shown ∷ []) (omega arith) (lines-whole k.all k.whole ∙ k.lines) (r.wrote t) (x.1 t).prefix (x.1 t).added)

  -- Nothing is left, and these are the lines behind the complete ones.

  -- they are done, and the end
  finished : (ws : S) (before left left' : List ℕ) (tells : Bool) (old mid new : List ℕ) (s s' : S) (count : ℕ) (lines : List (List ℕ))
      (r : Reached way ws before left tells old mid s count) → lines_of before ≡ complete_lines r.taken ++ lines → IsWithinLimits before → left' ≡ [] →
      s' ≡ way.quiet (way.at_end (after_lines way s lines)) → (IsTrue tells → new ≡ mid ++ way.unwritten (way.at_end (after_lines way s lines))) →
      HasEnded (λ (t : S). t) way ws s' before left' tells old new
  finished ws before left left' tells old mid new s s' count lines r all fits end state wrote =
      let first : List (List ℕ) = complete_lines r.taken in
      let last : List ℕ = way.unwritten (way.at_end (after_lines way s lines)) in
      record {
        within = fits;
        read = end;
        state = state ∙ quiet-end way order ws s first lines r.state ∙ ap (λ (xs : List (List ℕ)). way.quiet (way.at_end (after_lines way ws xs))) (sym all);
        wrote = λ t. wrote t
            ∙ ap (λ (m : List ℕ). m ++ last) (r.wrote t)
            ∙ append_assoc old (transcript_of way ws first) last
            ∙ ap (λ (x : List ℕ). old ++ x) (sym (transcript-end way order ws s first lines r.state))
            ∙ ap (λ (xs : List (List ℕ)). old ++ way.unwritten (way.at_end (after_lines way ws xs))) (sym all);
      }

  -- doing them or the end has failed
  unfinished-end : (e : RunError) (ws : S) (before left left' : List ℕ) (tells : Bool) (old mid new : List ℕ) (s : S) (count : ℕ) (lines : List (List ℕ))
      (r : Reached way ws before left tells old mid s count) → length lines ≤ 1 → lines_of before ≡ complete_lines r.taken ++ lines → IsWithinLimits before → left' ≡ [] →
      Writes {A = Unit {0}} (Err e) (way.unwritten (way.at_end (after_lines way s lines))) tells mid new → StoppedAt e way ws before left' tells old new
  unfinished-end e ws before left left' tells old mid new s count lines r one all fits end x =
      let first : List (List ℕ) = complete_lines r.taken in
      stopped-writing e ws before left' before tells old new (sym (append-nil before) ∙ ap (λ (b : List ℕ). before ++ b) (sym end)) fits x.0
      (λ t. subst (λ (after : List ℕ). Extends old new (text_taken way ws before after)) (sym end)
      (subst (λ (xs : List (List ℕ)). Extends old new (way.unwritten (way.at_end (after_lines way ws xs)))) (sym all)
      (subst (λ (text : List ℕ). Extends old new text) (sym (transcript-end way order ws s first lines r.state))
      (extends-second old mid new (transcript_of way ws first) (way.unwritten (way.at_end (after_lines way s lines))) (r.wrote t) (x.1 t)))))
      (λ t. in-turn way ws before old mid new first lines one all (r.wrote t) (x.1 t).prefix (x.1 t).added)

  finishes : (result : Result (Unit {0}) RunError) (ws : S) (before left left' : List ℕ) (tells : Bool) (old mid new : List ℕ) (s s' : S) (count : ℕ) (lines : List (List ℕ))
      (r : Reached way ws before left tells old mid s count) → length lines ≤ 1 → lines_of before ≡ complete_lines r.taken ++ lines → IsWithinLimits before → left' ≡ [] →
      OnOk result (s' ≡ way.quiet (way.at_end (after_lines way s lines))) → Writes result (way.unwritten (way.at_end (after_lines way s lines))) tells mid new →
      EndsRun result way ws s' before left' tells old new
  finishes (Ok x) ws before left left' tells old mid new s s' count lines r one all fits end state wrote = finished ws before left left' tells old mid new s s' count lines r all fits end state wrote
  finishes (Err e) ws before left left' tells old mid new s s' count lines r one all fits end state wrote = unfinished-end e ws before left left' tells old mid new s count lines r one all fits end wrote

  -- The last line was read, and is done or has failed.

  ends-with_last : (result : Result (Unit {0}) RunError) (ws : S) (before left left' : List ℕ) (tells : Bool) (old mid new : List ℕ) (s s' : S) (count : ℕ) (line : List ℕ) →
      Reached way ws before left tells old mid s count → count < 1000000 → IsLast line left left' →
      OnOk result (s' ≡ way.quiet (way.at_end (after_lines way s (last_line line)))) → Writes result (way.unwritten (way.at_end (after_lines way s (last_line line)))) tells mid new →
      EndsRun result way ws s' before left' tells old new
  ends-with_last result ws before left left' tells old mid new s s' count line r few b state wrote =
      let all : before ≡ r.taken ++ line = read-all r.taken line before left left' r.read b in
      finishes result ws before left left' tells old mid new s s' count (last_line line) r (last_line-length line)
      (ap lines_of all ∙ lines-piece r.taken line r.whole b.is_piece)
      (subst IsWithinLimits (sym all) (within-piece r.taken line count r.whole r.short r.counted b.is_piece few)) b.end state wrote

  pub ends-last : (result : Result (Unit {0}) RunError) (ws : S) (before left left' : List ℕ) (tells : Bool) (old mid new : List ℕ) (s s' : S) (count : ℕ) (line shown : List ℕ) (is_ended : Bool) →
      Reached way ws before left tells old mid s count → count < 1000000 → is_ended ≡ false → shown ≡ line → ReadsLine left (Ok is_ended) line left' →
      OnOk result (s' ≡ way.quiet (way.at_end (after_lines way s (last_line shown)))) → Writes result (way.unwritten (way.at_end (after_lines way s (last_line shown)))) tells mid new →
      EndsRun result way ws s' before left' tells old new
  ends-last result ws before left left' tells old mid new s s' count line shown is_ended r few e f h state wrote =
      ends-with_last result ws before left left' tells old mid new s s' count shown r few (reads-last left left' line shown is_ended e f h) state wrote

  -- An error of reading a line,

  -- of which this piece was read
  stopped-piece : (e : RunError) (ws : S) (before left left' : List ℕ) (tells : Bool) (old new : List ℕ) (s : S) (count : ℕ) (piece refused : List ℕ)
      (r : Reached way ws before left tells old new s count) → IsPiece piece → left ≡ piece ++ refused ++ left' → count < 1000000 →
      IsDue e (r.taken ++ piece) refused → (IsTrue tells → IsWritten e way ws (r.taken ++ piece) left' old new) → StoppedAt e way ws before left' tells old new
  stopped-piece e ws before left left' tells old new s count piece refused r p read few due wrote = record {
    taken = r.taken ++ piece;
    refused = refused;
    read = r.read ∙ ap (λ (x : List ℕ). r.taken ++ x) (read ∙ append_assoc piece refused left') ∙ sym (append_assoc r.taken piece (refused ++ left')) ∙ sym (append_assoc (r.taken ++ piece) refused left');
    within = within-piece r.taken piece count r.whole r.short r.counted p few;
    due = due;
    wrote = wrote;
    in_turn = λ t. in-turn way ws (r.taken ++ piece) old new new (complete_lines r.taken) (last_line piece) (last_line-length piece) (lines-piece r.taken piece r.whole p) (r.wrote t) [] (sym (append-nil new));
  }

  -- all that the complete lines write
  written-complete : (ws : S) (taken piece old new : List ℕ) → unfinished taken ≡ [] → IsPiece piece → new ≡ old ++ transcript_of way ws (complete_lines taken) →
      new ≡ old ++ transcript_of way ws (complete_lines (taken ++ piece))
  written-complete ws taken piece old new whole p e = e ∙ ap (λ (xs : List (List ℕ)). old ++ transcript_of way ws xs) (sym (complete-piece taken piece whole p))

  -- that is a prefix of what may be written
  written-front : (ws s : S) (taken piece after old new : List ℕ) → unfinished taken ≡ [] → IsPiece piece → s ≡ way.quiet (after_lines way ws (complete_lines taken)) →
      new ≡ old ++ transcript_of way ws (complete_lines taken) → Extends old new (text_taken way ws (taken ++ piece) after)
  written-front ws s taken piece [] old new whole p state e = record {
    prefix = transcript_of way ws (complete_lines taken);
    rest = way.unwritten (way.at_end (after_lines way s (last_line piece)));
    spelled = ap (λ (xs : List (List ℕ)). way.unwritten (way.at_end (after_lines way ws xs))) (lines-piece taken piece whole p) ∙ transcript-end way order ws s (complete_lines taken) (last_line piece) state;
    added = e;
  }
  written-front ws s taken piece (b ∷ after) old new whole p state e = record {
    prefix = transcript_of way ws (complete_lines (taken ++ piece));
    rest = [];
    spelled = sym (append-nil (transcript_of way ws (complete_lines (taken ++ piece))));
    added = written-complete ws taken piece old new whole p e;
  }

  pub stopped-reading : (e : RunError) (ws : S) (before left left' : List ℕ) (tells : Bool) (old new : List ℕ) (s : S) (count : ℕ) (line : List ℕ) →
      Reached way ws before left tells old new s count → ReadsLine left (Err e) line left' → count < 1000000 → StoppedAt e way ws before left' tells old new
  stopped-reading Read ws before left left' tells old new s count line r b few =
      stopped-piece Read ws before left left' tells old new s count line [] r b.is_piece
      (b.read ∙ ap (λ (x : List ℕ). x ++ left') (sym (append-nil line))) few refl
      (λ t. written-complete ws r.taken line old new r.whole b.is_piece (r.wrote t))
  stopped-reading Memory ws before left left' tells old new s count line r b few =
      let p : IsPiece (line ++ b.0.byte ∷ []) = piece-more line b.0.byte b.0.is_piece b.0.no_feed b.1 in
      stopped-piece Memory ws before left left' tells old new s count (line ++ b.0.byte ∷ []) [] r p
      (b.0.read ∙ sym (append_assoc line (b.0.byte ∷ []) left') ∙ ap (λ (x : List ℕ). x ++ left') (sym (append-nil (line ++ b.0.byte ∷ [])))) few refl
      (λ t. written-front ws s r.taken (line ++ b.0.byte ∷ []) left' old new r.whole p r.state (r.wrote t))
  stopped-reading LineTooLong ws before left left' tells old new s count line r b few =
      stopped-piece LineTooLong ws before left left' tells old new s count line (b.0.byte ∷ []) r b.0.is_piece
      (b.0.read ∙ sym (append_assoc line (b.0.byte ∷ []) left')) few
      (ap length (unfinished-behind_piece r.taken line r.whole b.0.is_piece.unbroken) ∙ b.1, (b.0.byte, b.0.no_feed, refl))
      (λ t. written-complete ws r.taken line old new r.whole b.0.is_piece (r.wrote t))
  stopped-reading Write ws before left left' tells old new s count line r b few = absurd b
  stopped-reading TooManyLines ws before left left' tells old new s count line r b few = absurd b

  -- Behind the last line that may be,

  turn-whole : (ws : S) (before left : List ℕ) (tells : Bool) (old new : List ℕ) (s : S) (count : ℕ) (r : Reached way ws before left tells old new s count) → IsTrue tells → IsInTurn way ws r.taken old new
  turn-whole ws before left tells old new s count r t =
      in-turn way ws r.taken old new new (complete_lines r.taken) [] (omega arith) (lines-whole r.taken r.whole ∙ sym (append-nil (complete_lines r.taken))) (r.wrote t) [] (sym (append-nil new))

  -- the reader fails
  stopped-at_end : (ws : S) (before left left' : List ℕ) (tells : Bool) (old new : List ℕ) (s : S) (count : ℕ) →
      Reached way ws before left tells old new s count → count ≡ 1000000 → left' ≡ left → StoppedAt Read way ws before left' tells old new
  stopped-at_end ws before left left' tells old new s count r full e = record {
    taken = r.taken;
    refused = [];
    read = r.read ∙ ap (λ (x : List ℕ). r.taken ++ x) (sym e) ∙ ap (λ (t : List ℕ). t ++ left') (sym (append-nil r.taken));
    within = within-whole r.taken count r.whole r.short r.counted (omega arith);
    due = refl;
    wrote = r.wrote;
    in_turn = λ t. turn-whole ws before left tells old new s count r t;
  }

  -- a line more begins
  stopped-many : (ws : S) (before left left' : List ℕ) (tells : Bool) (old new : List ℕ) (s : S) (count b : ℕ) →
      Reached way ws before left tells old new s count → count ≡ 1000000 → left ≡ b ∷ left' → StoppedAt TooManyLines way ws before left' tells old new
  stopped-many ws before left left' tells old new s count b r full e = record {
    taken = r.taken;
    refused = b ∷ [];
    read = r.read ∙ ap (λ (x : List ℕ). r.taken ++ x) e ∙ sym (append_assoc r.taken (b ∷ []) left');
    within = within-whole r.taken count r.whole r.short r.counted (omega arith);
    due = (r.counted ∙ full, r.whole, refl);
    wrote = r.wrote;
    in_turn = λ t. turn-whole ws before left tells old new s count r t;
  }

  pub stopped-full : (e : RunError) (ws : S) (before left left' : List ℕ) (tells : Bool) (old new : List ℕ) (s : S) (count : ℕ) →
      Reached way ws before left tells old new s count → count ≡ 1000000 → ReadsEnd {A = Unit {0}} left (Err e) left' → StoppedAt e way ws before left' tells old new
  stopped-full TooManyLines ws before left left' tells old new s count r full h = stopped-many ws before left left' tells old new s count h.0 r full h.1
  stopped-full Read ws before left left' tells old new s count r full h = stopped-at_end ws before left left' tells old new s count r full h
  stopped-full Memory ws before left left' tells old new s count r full h = absurd h
  stopped-full LineTooLong ws before left left' tells old new s count r full h = absurd h
  stopped-full Write ws before left left' tells old new s count r full h = absurd h

  -- the input ends
  pub ends-full : (result : Result (Unit {0}) RunError) (ws : S) (before left left' : List ℕ) (tells : Bool) (old mid new : List ℕ) (s s' : S) (count : ℕ) →
      Reached way ws before left tells old mid s count → count ≡ 1000000 → left ≡ [] → left' ≡ [] →
      OnOk result (s' ≡ way.quiet (way.at_end s)) → Writes result (way.unwritten (way.at_end s)) tells mid new → EndsRun result way ws s' before left' tells old new
  ends-full result ws before left left' tells old mid new s s' count r full e f state wrote =
      let all : before ≡ r.taken = r.read ∙ ap (λ (x : List ℕ). r.taken ++ x) e ∙ append-nil r.taken in
      finishes result ws before left left' tells old mid new s s' count [] r (omega arith)
      (ap lines_of all ∙ lines-whole r.taken r.whole ∙ sym (append-nil (complete_lines r.taken)))
      (subst IsWithinLimits (sym all) (within-whole r.taken count r.whole r.short r.counted (omega arith))) f state wrote
