-- However a run is cut, it is the same run.
use Rattle.std.specs.Prelude.{◌≡◌, ℕ, ◌+◌, ◌*◌, ◌<◌, ◌≤◌, List, true, false}
use Rattle.apl_vectors.specs.Vectors.{Vectors}
use Rattle.apl_machine_state.specs.State.{State, interrupt, steps, is_idle}
use Rattle.apl_session.specs.Events.{typed}
use Rattle.apl_resume.specs.Cut.{free, unstopped, cut, uncut, cut_steps, cut_by, stops_in, stops_by, named_in, moves, moves_by, IsQuietRun}

-- A run is cut at the stops of these vectors and begins at s; the same run without stops begins at u. After k steps of the latter, and after k single steps
-- of the former and two more for each line that the vectors name among those that the latter came to, other than by a typed branch, both stand the same. Two
-- states are the same when they are freed: the functions, names and contexts are, the trace vectors, the open definition, and the output without stop reports.
pub record IsSameAfter (vectors : Vectors) (s u : State) (k : ℕ) : Type 0 where
  pub same : free (cut_by (k + 2 * named_in vectors k u) s) ≡ free (steps k u)
  -- the former has stopped at these lines
  pub stops : stops_by (k + 2 * named_in vectors k u) s ≡ named_in vectors k u
  -- it has made as many steps, and two for each stop
  pub steps_taken : moves_by (k + 2 * named_in vectors k u) s ≡ moves k u + 2 * named_in vectors k u
  -- they come to idle together, or both still run
  pub both_idle : is_idle (cut_by (k + 2 * named_in vectors k u) s) ≡ is_idle (steps k u)

-- What is promised of a line that is given n steps, where the run without stops reduces no phrase of ⎕STOP.
pub record IsSameRun (x : State) (line : List ℕ) (n : ℕ) : Type 0 where
  -- at the end both are the same
  pub at_the_end : free (cut x line n) ≡ free (uncut x line n)
  -- and so they are after each of the n steps
  pub on_the_way : (k : ℕ) → k ≤ n → IsSameAfter x.stops (typed x line) (typed (unstopped x) line) k
  -- the stops are the lines that the vectors name among those that the other comes to, other than by a typed branch
  pub stops : (k : ℕ) → k ≤ n → stops_in k (typed x line) ≡ named_in x.stops k (typed (unstopped x) line)
  -- there are no more stops than steps
  pub at_most : stops_in n (typed x line) ≤ moves n (typed (unstopped x) line)
  -- where the other still runs after n steps it has made all of them, the one two more for each stop, and both are interrupted at the same phrase
  pub interrupted : is_idle (steps n (typed (unstopped x) line)) ≡ false →
      (moves n (typed (unstopped x) line) ≡ n)
      × (moves_by (n + 2 * stops_in n (typed x line)) (typed x line) ≡ n + 2 * stops_in n (typed x line))
      × (free (cut_by (n + 2 * stops_in n (typed x line)) (typed x line)) ≡ free (steps n (typed (unstopped x) line)))

-- The cut run of a line in single steps, with a budget: n steps at first and, at each stop, which the line →⎕LC answers at once, two more. When the budget
-- is spent, what still runs is interrupted.
pub record IsCut (x : State) (line : List ℕ) (n : ℕ) (new : State) (stopped : ℕ) : Type 0 where
  pub made : ℕ
  pub spent : made ≡ n + 2 * stops_by made (typed x line)
  pub lasts : (i : ℕ) → i < made → i < n + 2 * stops_by i (typed x line)
  pub state : new ≡ interrupt (cut_by made (typed x line))
  pub stops : stopped ≡ stops_by made (typed x line)
  -- for each k, k steps and the answers to their stops are k single steps and two more for each stop
  pub on_the_way : (k : ℕ) → cut_by (k + 2 * stops_in k (typed x line)) (typed x line) ≡ cut_steps k (typed x line)
  pub stops_on_the_way : (k : ℕ) → stops_by (k + 2 * stops_in k (typed x line)) (typed x line) ≡ stops_in k (typed x line)

-- the cut run of every idle state is that
abbrev pub CutInSingleSteps : Type 0
CutInSingleSteps = (x : State) (line : List ℕ) (n : ℕ) → is_idle x ≡ true → IsCut x line n (cut x line n) (stops_in n (typed x line))

-- the law
abbrev pub CutIsUncut : Type 0
CutIsUncut = (x : State) (line : List ℕ) (n : ℕ) → is_idle x ≡ true → IsQuietRun n (typed (unstopped x) line) → IsSameRun x line n
