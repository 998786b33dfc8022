-- What contracts see of an adapter over a reader or a writer of std.
use Rattle.std.specs.Prelude.{ℕ}

-- what contracts see of a stream of std: how often a call failed
pub record StdView (T : Type 0) : Type 0 where
  -- the reader or the writer
  pub inner : T
  -- how often a call failed
  pub faults : ℕ
