use Rattle.ext_disk.specs.Calls as calls
use Rattle.ext_disk.proofs.memory_disk.MemoryDiskDisk.make_dir.Goals as goal

pub returns-clause-does : goal.returns-clause-does
returns-clause-does c = c.change.ensures.does (calls.make_dir c.args.path.now) c.make_dir-deed.ensures
