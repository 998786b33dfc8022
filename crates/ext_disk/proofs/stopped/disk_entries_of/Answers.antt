use Rattle.std.proofs.Common.{◌∙◌, ap}
use Rattle.ext_disk.specs.DiskEntries.{place_of}
use Rattle.ext_disk.specs.Deeds.{durable_place}
use Rattle.ext_disk.proofs.StoppedLemmas.{disk_entries_next}
use Rattle.ext_disk.proofs.stopped.disk_entries_of.Goals as goal

pub given-preserved : goal.given-preserved
given-preserved c =
    let item = c.given-item.result in
    disk_entries_next c.given.disk_entries c.put_disk_entry.new.disk_entries c.args.given.now c.given.path-index item.0 item.1 (place_of c.durable.result) c.given.invariant c.given-test.true c.given-item.is
    (c.durable.ensures ∙ ap durable_place c.in_ok-copy.ensures) c.in_ok-put_disk_entry.ensures.ok
