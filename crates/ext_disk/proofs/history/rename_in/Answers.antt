use Rattle.std.proofs.Common.{◌∙◌, sym, ap}
use Rattle.ext_disk.specs.DiskEntries.{place_at}
use Rattle.ext_disk.proofs.HistoryLemmas.{renamed_in_turn}
use Rattle.ext_disk.proofs.history.rename_in.Goals as goal

pub returns-clause-ok : goal.returns-clause-ok
returns-clause-ok c =
    let d = place_at c.args.disk_entries.now in
    let reserves = c.in_ok-reserve.ensures.same in
    let from = c.args.from.now in
    renamed_in_turn d (place_at c.reserve.new.disk_entries) (place_at c.leave_at-file.new.disk_entries) (place_at c.reach_at.new.disk_entries) from c.args.to.now c.in_ok-durable.durable c.requires.two c.in_ok-durable.ensures
    reserves c.leave_at-file.ensures.left
    (c.reach_at.ensures (d from) (ap (λ x. x.node) (sym (reserves from)) ∙ sym c.leave_at-file.ensures.taken))
