-- The key and the value of a line.
use Rattle.std.proofs.Common.{◌≡◌, ℕ, List, sym}
use Rattle.std.specs.Prelude.{None, Option, Some, MatchOption}
use Rattle.std.specs.Borrow.{Bor}
use Rattle.std.specs.Option.{option_map}
use Rattle.ext_lines.specs.Split.{IsSplit, Lacks, split_of}
use Rattle.ext_lines.proofs.ForCallers.{split_of-lacks, split_of-split}

-- what a split gives is the split as a function
pub split_value : (byte : ℕ) (text : List ℕ) (found : Option (Bor (List ℕ) × Bor (List ℕ))) →
    MatchOption found (Lacks byte text) (λ parts. IsSplit byte text parts.0.now parts.1.now) → option_map (λ parts. (parts.0.now, parts.1.now)) found ≡ split_of byte text
split_value byte text None lacks = sym (split_of-lacks byte text lacks)
split_value byte text (Some parts) is = sym (split_of-split byte text parts.0.now parts.1.now is)
