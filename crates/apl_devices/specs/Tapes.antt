-- What calls of a tape do.
use Rattle.std.specs.Prelude.{ℕ, zero, suc, ◌+◌, min, max, Bool, true, ◌&&◌, ◌||◌, nat_lt, ◌==◌, List, ◌++◌, drop, take, length, Option, Some, None}

-- A tape: its bytes, how many of them have been read, the number of calls before the one that fails, the most bytes of a call, and whether it has failed.
pub record Tape : Type 0 where
  pub bytes : List ℕ
  pub read : ℕ
  pub failing : Option ℕ
  pub most : ℕ
  pub failed : Bool

-- the bytes left
abbrev pub left : Tape → List ℕ
left t = drop t.read t.bytes

abbrev pub counted_down : Option ℕ → Option ℕ
counted_down None = None
counted_down (Some zero) = None
counted_down (Some (suc n)) = Some n

-- after one call more
abbrev pub called : Tape → Tape
called t = record t { failing = counted_down t.failing }

-- after a call that failed
abbrev pub broken : Tape → Tape
broken t = record (called t) { failed = true }

-- how many bytes a read into room for n moves: at least one, if there is one and room for it
abbrev pub moved_in : Tape → ℕ → ℕ
moved_in t n = min (min (length (left t)) n) (max t.most 1)

-- after a read of n bytes
abbrev pub after_read : ℕ → Tape → Tape
after_read n t = record (called t) { read = t.read + n }

-- how many of n bytes a write moves
abbrev pub moved_out : Tape → ℕ → ℕ
moved_out t n = min n t.most

-- after a write of these bytes, of which n are taken; none of some is a failure
abbrev pub after_write : List ℕ → ℕ → Tape → Tape
after_write bytes n t = record (called t) { bytes = t.bytes ++ take n bytes; failed = t.failed || (n == 0 && nat_lt 0 (length bytes)) }
