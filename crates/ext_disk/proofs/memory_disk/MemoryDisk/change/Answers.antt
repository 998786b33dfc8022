use Rattle.std.proofs.Common.{rules, arith}
use Rattle.std.proofs.lemmas.Grind.{common_steps}
use Rattle.ext_disk.proofs.memory_disk.MemoryDisk.change.Goals as goal

pub returns-in_err-admit-clause-does : goal.returns-in_err-admit-clause-does
returns-in_err-admit-clause-does c = λ call is. first_of (search rules, grind (arith, common_steps))
