use Rattle.std.proofs.lemmas.Map.Iter.{rest_all}
use Rattle.std.specs.Map.Iter.{deref_pair}
use Rattle.ext_disk.proofs.ListingLemmas.{all_gathered, names_stand, names_in_order}
use Rattle.ext_disk.proofs.listing.names_in.Goals as goal

pub returns-clause-sorted : goal.returns-clause-sorted
returns-clause-sorted c =
    let none = rest_all deref_pair c.disk_entries.path-iterator _ c.next.result c.in-None.is c.next.ensures.steps in
    names_in_order c.args.disk_entries.now c.args.dir.now c.disk_entries.names
    (all_gathered c.args.dir.now c.disk_entries.names c.disk_entries.path-iterator c.args.disk_entries.now.entries c.disk_entries.invariant.0 none) c.iter-path-items.ensures.ordered

pub returns-clause-has : goal.returns-clause-has
returns-clause-has c =
    let none = rest_all deref_pair c.disk_entries.path-iterator _ c.next.result c.in-None.is c.next.ensures.steps in
    names_stand c.args.disk_entries.now c.args.dir.now c.disk_entries.names
    (all_gathered c.args.dir.now c.disk_entries.names c.disk_entries.path-iterator c.args.disk_entries.now.entries c.disk_entries.invariant.0 none) c.iter-path-items.ensures.ordered
