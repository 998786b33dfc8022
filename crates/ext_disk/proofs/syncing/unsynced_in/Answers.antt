use Rattle.std.proofs.Common.{ℕ, List, ◌∙◌, ap, sym}
use Rattle.std.proofs.lemmas.Map.Iter.{rest_more, rest_all}
use Rattle.std.specs.Map.Iter.{deref_pair}
use Rattle.ext_disk.specs.declared.disk_entry.DiskEntry.{DiskEntry}
use Rattle.ext_disk.proofs.SyncingLemmas.{unsynced_of, unsynced_first, unsynced_next, unsynced_past, unsynced_all}
use Rattle.ext_disk.proofs.syncing.unsynced_in.Goals as goal

pub disk_entries-init : goal.disk_entries-init
disk_entries-init c =
    unsynced_first c.args.dir.now c.args.disk_entries.now c.new-paths.result.items c.into_iter-path-iterator.result c.new-paths.ensures.items
    (c.into_iter-path-iterator.ensures.into_iter_gives ∙ c.range-path-items.ensures.between tt) c.range-path-items.ensures.ordered

pub returns-then-not-starts_with : goal.returns-then-not-starts_with
returns-then-not-starts_with c =
    let here : List (List ℕ) × DiskEntry = (c.in-Some.path.now, c.in-Some.disk_entry.now) in
    let turn = rest_more deref_pair c.disk_entries.path-iterator c.next.new.self c.next.result (c.in-Some.path, c.in-Some.disk_entry) c.in-Some.is c.next.ensures.steps in
    unsynced_all c.args.dir.now c.args.disk_entries.now c.disk_entries.paths.items c.disk_entries.path-iterator c.disk_entries.invariant
    (unsynced_past c.args.dir.now c.disk_entries.path-iterator here c.next.new.self turn (sym c.starts_with.ensures ∙ c.if-not-starts_with.true) c.disk_entries.invariant.low c.disk_entries.invariant.sorted) c.range-path-items.ensures.ordered

pub disk_entries-preserved : goal.disk_entries-preserved
disk_entries-preserved c =
    let here : List (List ℕ) × DiskEntry = (c.in-Some.path.now, c.in-Some.disk_entry.now) in
    let turn = rest_more deref_pair c.disk_entries.path-iterator c.next.new.self c.next.result (c.in-Some.path, c.in-Some.disk_entry) c.in-Some.is c.next.ensures.steps in
    unsynced_next c.args.dir.now c.args.disk_entries.now c.disk_entries.paths.items c.keep_unsynced.new.paths.items c.disk_entries.path-iterator here c.next.new.self c.disk_entries.invariant turn c.in_ok-keep_unsynced.ensures

pub returns : goal.returns
returns c =
    let none = rest_all deref_pair c.disk_entries.path-iterator _ c.next.result c.in-None.is c.next.ensures.steps in
    unsynced_all c.args.dir.now c.args.disk_entries.now c.disk_entries.paths.items c.disk_entries.path-iterator c.disk_entries.invariant (ap (unsynced_of c.args.dir.now) none) c.range-path-items.ensures.ordered
