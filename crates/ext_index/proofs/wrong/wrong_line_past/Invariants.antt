use Rattle.std.proofs.Common.{take}
use Rattle.std.specs.List.{AllByRecursion}
use Rattle.ext_host.specs.Host.{hierarchies_in, past_tree}
use Rattle.ext_index.specs.Faulty.{AreRight}
use Rattle.ext_index.proofs.wrong.wrong_line_past.Given as goal

abbrev pub invariant-pasts : goal.invariant-pasts
invariant-pasts l = AllByRecursion (λ past. AreRight (hierarchies_in l.host) (past_tree past)) (take l.at l.host.past)
