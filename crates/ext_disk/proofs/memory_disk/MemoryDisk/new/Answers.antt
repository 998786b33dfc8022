use Rattle.std.proofs.Common.{[], ◌∙◌, ap}
use Rattle.ext_disk.specs.Deeds.{replay}
use Rattle.ext_disk.proofs.memory_disk.MemoryDisk.new.Goals as goal

pub returns-clause-empty : goal.returns-clause-empty
returns-clause-empty c = λ p. ap (λ g. replay g c.new.result.deeds.items p) c.new.ensures.given ∙ ap (λ l. replay [] l p) c.new.ensures.deeds
