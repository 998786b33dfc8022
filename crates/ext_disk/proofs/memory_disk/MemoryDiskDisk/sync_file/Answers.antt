use Rattle.ext_disk.specs.Calls as calls
use Rattle.ext_disk.proofs.memory_disk.MemoryDiskDisk.sync_file.Goals as goal

pub returns-clause-does : goal.returns-clause-does
returns-clause-does c = c.change.ensures.does (calls.sync_file c.args.path.now) c.sync_file-deed.ensures
