-- What a sink means to contracts.
use Rattle.std.specs.Prelude.{ℕ, List, Option}

-- what contracts see of a sink
pub record SinkState : Type 0 where
  -- the bytes that were written so far, where the sink tells them
  pub written : Option (List ℕ)
  -- how often a call failed
  pub faults : ℕ
