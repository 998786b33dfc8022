use Rattle.std.proofs.Common.{◌∙◌, sym, ap, subst}
use Rattle.ext_disk.specs.Calls.{Allows, put, after}
use Rattle.ext_disk.specs.DiskEntries.{place_of, place_at}
use Rattle.ext_disk.specs.Deeds.{call_of}
use Rattle.ext_disk.proofs.HistoryLemmas.{removed_here}
use Rattle.ext_disk.proofs.DiskEntriesLemmas.{on_ok}
use Rattle.ext_disk.proofs.history.apply.Goals as goal

pub returns-in-Remove-clause-ok : goal.returns-in-Remove-clause-ok
returns-in-Remove-clause-ok c =
    let d = place_at c.args.disk_entries.now in
    let path = c.in-Remove.path in
    on_ok c.put_disk_entry-in-Remove.result _ _
    (λ puts q.
    puts q
    ∙ ap (λ s. put path (place_of s) d q) c.unsynced_name-in-Remove.ensures
    ∙ ap (λ f. f q) (removed_here d path c.requires.grown (subst (λ x. Allows (call_of x) d) c.in-Remove.is c.requires.allowed))
    ∙ ap (λ x. after (call_of x) d q) (sym c.in-Remove.is))
    c.put_disk_entry-in-Remove.ensures.ok
