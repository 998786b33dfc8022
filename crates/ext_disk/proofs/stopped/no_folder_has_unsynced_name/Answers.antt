use Rattle.std.proofs.Common.{◌∙◌, List, ℕ, Bool, not, sym, ap, arith}
use Rattle.ext_disk.specs.DiskEntries.{place_at}
use Rattle.ext_disk.proofs.PickedLemmas.{one_proper_fails, each_below_more, all_proper_pass}
use Rattle.ext_disk.proofs.stopped.no_folder_has_unsynced_name.Goals as goal

pub returns-then-has_unsynced_name_at : goal.returns-then-has_unsynced_name_at
returns-then-has_unsynced_name_at c =
    let f : List (List ℕ) → Bool = λ q. not (place_at c.args.disk_entries.now q).unsynced_name in
    one_proper_fails f c.args.path.now c.names.count (omega arith) (ap f (sym c.in_ok-prefix.ensures) ∙ ap not (sym c.has_unsynced_name_at.ensures ∙ c.if-has_unsynced_name_at.true))

pub names-preserved : goal.names-preserved
names-preserved c =
    let f : List (List ℕ) → Bool = λ q. not (place_at c.args.disk_entries.now q).unsynced_name in
    each_below_more f c.args.path.now c.names.count c.names.invariant (ap f (sym c.in_ok-prefix.ensures) ∙ ap not (sym c.has_unsynced_name_at.ensures ∙ c.if-has_unsynced_name_at.false))

pub returns : goal.returns
returns c = sym (all_proper_pass (λ q. not (place_at c.args.disk_entries.now q).unsynced_name) c.args.path.now (λ k within. c.names.invariant k (omega arith)))
