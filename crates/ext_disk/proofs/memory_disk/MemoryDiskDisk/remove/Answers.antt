use Rattle.ext_disk.specs.Calls as calls
use Rattle.ext_disk.proofs.memory_disk.MemoryDiskDisk.remove.Goals as goal

pub returns-clause-does : goal.returns-clause-does
returns-clause-does c = c.change.ensures.does (calls.remove c.args.path.now) c.remove-deed.ensures
