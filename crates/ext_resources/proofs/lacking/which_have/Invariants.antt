use Rattle.std.proofs.Common.{◌≡◌, take}
use Rattle.ext_resources.proofs.LackingLemmas.{marks}
use Rattle.ext_resources.proofs.lacking.which_have.Given as goal

-- the marks of the instances so far
abbrev pub invariant-loop-item : goal.invariant-loop-item
invariant-loop-item l = l.have.items ≡ marks (take l.item-index l.items) l.version l.count
