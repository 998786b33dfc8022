use Rattle.ext_disk.specs.Calls as calls
use Rattle.ext_disk.proofs.memory_disk.MemoryDiskDisk.make_file.Goals as goal

pub returns-clause-does : goal.returns-clause-does
returns-clause-does c = c.change.ensures.does (calls.make_file c.args.path.now) c.make_file-deed.ensures
