use Rattle.ext_disk.specs.Calls as calls
use Rattle.ext_disk.proofs.memory_disk.MemoryDiskDisk.rename.Goals as goal

pub returns-clause-does : goal.returns-clause-does
returns-clause-does c = c.change.ensures.does (calls.rename c.args.from.now c.args.to.now) c.rename-deed.ensures
