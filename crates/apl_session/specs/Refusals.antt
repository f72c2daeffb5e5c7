-- The numbers of what refuses a line.
use Rattle.std.specs.Prelude.{ℕ}
use Rattle.apl_session.specs.declared.session.FeedError.{FeedError}
use Rattle.apl_session.specs.declared.session.FeedError.TheVariants.{Busy, Memory}

abbrev pub feed_number : FeedError → ℕ
feed_number Busy = 1
feed_number Memory = 2
