use Rattle.std.proofs.Common.{◌≢◌, ◌∙◌, [], All, refl, sym, subst, ap}
use Rattle.std.proofs.lemmas.Bool.{false≢true}
use Rattle.std.proofs.lemmas.List.Elements.{All-push}
use Rattle.std.proofs.lemmas.Map.Iter.{rest_more, btree_map_turn}
use Rattle.std.specs.Map.Iter.{deref_pair}
use Rattle.ext_text.specs.Order.{paths_total}
use Rattle.ext_disk.specs.DiskEntries.{place_at}
use Rattle.ext_disk.specs.Picked.{picked_place}
use Rattle.ext_disk.proofs.DiskEntriesLemmas.{found_at}
use Rattle.ext_disk.proofs.StoppedLemmas.{IsGivenSoFar, given_none, given_next, given_passed, none_given, same_node}
use Rattle.ext_disk.proofs.stopped.left_by_stop.Goals as goal

pub disk_entries-init : goal.disk_entries-init
disk_entries-init c = (
  subst (IsGivenSoFar (picked_place c.args.pick (place_at c.args.disk_entries.now)) c.new-given.result.items) (sym (c.into_iter-path-iterator.ensures.into_iter_gives ∙ c.iter-path-items.ensures.rest))
      (given_none c.args.pick c.args.disk_entries.now c.new-given.result.items c.new-given.ensures.items c.iter-path-items.ensures.ordered),
  none_given c.new-given.result.items c.new-given.ensures.items,
)

pub disk_entries-preserved-in_ok-push : goal.disk_entries-preserved-in_ok-push
disk_entries-preserved-in_ok-push c =
    let disk_entries = c.args.disk_entries.now in
    let want = picked_place c.args.pick (place_at disk_entries) in
    let here = c.in-Some.path.now in
    let turn = rest_more deref_pair c.disk_entries.path-iterator c.next.new.self c.next.result (c.in-Some.path, c.in-Some.disk_entry) c.in-Some.is c.next.ensures.steps in
    let found = (btree_map_turn deref_pair c.disk_entries.yielded c.into_iter-path-iterator.result c.disk_entries.path-iterator c.next.new.self c.next.result (c.in-Some.path, c.in-Some.disk_entry) c.disk_entries.yielded_by
    c.in-Some.is c.next.ensures.steps paths_total disk_entries (c.into_iter-path-iterator.ensures.into_iter_gives ∙ c.iter-path-items.ensures.rest) c.iter-path-items.ensures.ordered).1 in
    let some : here ≢ [] = λ root. false≢true (c.if-not-is_root.ensures.1 root) in
    let same = c.in_ok-copy.ensures in
    let node = c.in_ok-content.ensures (sym (found_at disk_entries here c.in-Some.disk_entry.now some found)) in (
      given_next want c.disk_entries.given.items c.push.new.self.items (here, c.in-Some.disk_entry.now) c.next.new.self c.in_ok-copy.field-0 c.in_ok-content.content
          (subst (IsGivenSoFar want c.disk_entries.given.items) turn c.disk_entries.invariant.0) same (λ root. some (sym same ∙ root))
          (same_node node ∙ ap want (sym same)) c.in_ok-push.ensures.items,
      subst (All (λ e. e.0 ≢ [])) (sym c.in_ok-push.ensures.items)
          (All-push (λ e. e.0 ≢ []) c.disk_entries.given.items (c.in_ok-copy.field-0, c.in_ok-content.content) c.disk_entries.invariant.1 (λ root. some (sym same ∙ root))),
    )

pub disk_entries-preserved : goal.disk_entries-preserved
disk_entries-preserved c =
    let want = picked_place c.args.pick (place_at c.args.disk_entries.now) in
    let turn = rest_more deref_pair c.disk_entries.path-iterator c.next.new.self c.next.result (c.in-Some.path, c.in-Some.disk_entry) c.in-Some.is c.next.ensures.steps in (
      given_passed want c.disk_entries.given.items (c.in-Some.path.now, c.in-Some.disk_entry.now) c.next.new.self (subst (IsGivenSoFar want c.disk_entries.given.items) turn c.disk_entries.invariant.0)
          (c.if-not-is_root.ensures.0 refl),
      c.disk_entries.invariant.1,
    )
