use Rattle.std.proofs.Common.{◌∙◌, sym, refl, subst, IsSome}
use Rattle.ext_disk.proofs.DiskEntriesLemmas.{put_absent}
use Rattle.ext_disk.proofs.disk_entries.reserve.Goals as goal

pub returns-clause-same : goal.returns-clause-same
returns-clause-same c =
    put_absent c.args.disk_entries.now c.put_disk_entry.new.disk_entries c.args.path.now c.durable.result c.requires (sym c.contains_key.ensures ∙ c.if-contains_key.false) c.durable.ensures c.in_ok-put_disk_entry.ensures.ok

pub returns-clause-there : goal.returns-clause-there
returns-clause-there c = subst IsSome (sym c.in_ok-put_disk_entry.ensures.there) refl
