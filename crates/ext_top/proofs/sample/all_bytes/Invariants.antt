use Rattle.std.proofs.Common.{◌≡◌, take}
use Rattle.ext_host.specs.Valid.{all_bytes}
use Rattle.ext_top.proofs.sample.all_bytes.Given as goal

abbrev pub invariant-pairs : goal.invariant-pairs
invariant-pairs l = l.bytes ≡ all_bytes (take l.pair-index l.pairs)
