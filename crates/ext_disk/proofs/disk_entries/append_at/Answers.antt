use Rattle.ext_disk.proofs.DiskEntriesLemmas.{on_err, write_back, file_no_root}
use Rattle.ext_disk.proofs.disk_entries.append_at.Goals as goal

pub returns-in-Some-clause-err : goal.returns-in-Some-clause-err
returns-in-Some-clause-err c =
    let m = c.args.disk_entries.now in
    let new = c.append.new.self in
    on_err c.append.result _ _
    (λ same. write_back m (c.get_mut.follows.lender new) c.args.path.now c.in-Some.disk_entry.now new (file_no_root m c.args.path.now c.requires) c.in-Some.ensures.value (c.get_mut.follows.holds new) same)
    c.append.ensures.err
