use Rattle.std.proofs.Common.{take}
use Rattle.std.specs.List.{AllByRecursion}
use Rattle.ext_host.specs.Host.{past_tree}
use Rattle.ext_index.specs.ValidIndex.{IsWellFormedTree}
use Rattle.ext_gen.proofs.preparing.forms.look_at_pasts.Given as goal

-- those so far are
abbrev pub invariant-pasts : goal.invariant-pasts
invariant-pasts l = AllByRecursion (λ past. IsWellFormedTree (past_tree past)) (take l.past-index l.pasts)
