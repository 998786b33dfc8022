use Rattle.ext_disk.proofs.DiskEntriesLemmas.{put_key}
use Rattle.ext_disk.proofs.disk_entries.put_disk_entry.Goals as goal

pub returns-clause-ok : goal.returns-clause-ok
returns-clause-ok c =
    put_key c.args.disk_entries.now c.insert.new.self c.in_ok-path.path c.args.path.now c.args.disk_entry c.in_ok-path.ensures c.requires c.in_ok-insert.ensures.updates
