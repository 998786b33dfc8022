use Rattle.std.proofs.Common.{◌≡◌, ◌+◌, take}
use Rattle.ext_host.specs.Valid.{all_bytes}
use Rattle.ext_host.proofs.limits.bytes_left.Given as goal

abbrev pub invariant-pairs : goal.invariant-pairs
invariant-pairs l = l.left + all_bytes (take l.pair-index l.pairs) ≡ l.most
