-- What a source means to contracts.
use Rattle.std.specs.Prelude.{ℕ, List, Option}

-- what contracts see of a source
pub record SourceState : Type 0 where
  -- the bytes that are left to read, where the source tells them
  pub left : Option (List ℕ)
  -- how often a call failed
  pub faults : ℕ
