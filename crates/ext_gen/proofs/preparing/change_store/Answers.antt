use Rattle.std.proofs.Common.{◌≡◌, ◌+◌, false, ◌++◌, length, Err, refl, sym, ap, ◌∙◌, subst, arith}
use Rattle.std.proofs.lemmas.Result.{err_from_is_err_and}
use Rattle.std.specs.Option.{option_copied}
use Rattle.ext_host.specs.Host.{present}
use Rattle.ext_host.specs.declared.host.Host.{Host}
use Rattle.ext_store_files.specs.LeftOvers.{is_left_path, has_generation}
use Rattle.ext_store_files.specs.Names.{current_text}
use Rattle.ext_homes.specs.Brought.{brought, bytes_of_all}
use Rattle.ext_homes.specs.Giving.{AreHomesBefore, stored_by, trees_before}
use Rattle.ext_homes.proofs.ForCallers.{limits_small}
use Rattle.ext_store_files.specs.Writing.{Holds}
use Rattle.ext_gen.specs.Preparing.{host_before, is_left, is_needed, most_bytes_of, most_files}
use Rattle.ext_gen.specs.PreparingIndex.{coming_index}
use Rattle.ext_gen.specs.PreparingCauses.{FillCause}
use Rattle.ext_gen.specs.PreparingPaths.{Changes, Cleans}
use Rattle.ext_gen.specs.PreparingStages.{Fills, IsGenerationOpen}
use Rattle.ext_gen.proofs.PreparingChangeLemmas.{change_cause_clear, change_cause_fill, change_cause_write, changed_told, homes_since, open_made, open_no_next, same_needed}
use Rattle.ext_gen.proofs.PreparingFilesLemmas.{coming_not_needed, homes_before}
use Rattle.ext_gen.proofs.PreparingLeftLemmas.{cleans_done, cleans_handed, cleans_later, cleans_nothing, failed_finished, fill_finished, write_finished}
use Rattle.ext_gen.proofs.PreparingOpenedLemmas.{coming_is_opened, coming_is_shorter}
use Rattle.ext_gen.proofs.PreparingPathsLemmas.{changes_nothing, changes_then, changes_wider}
use Rattle.ext_gen.proofs.PreparingStagesLemmas.{filled_folder, filled_no_index, filled_no_next}
use Rattle.ext_gen.proofs.preparing.change_store.Goals as goal

pub returns-in_err-needed-clause-changes : goal.returns-in_err-needed-clause-changes
returns-in_err-needed-clause-changes g c =
    let from = option_copied c.args.from in
    let n = c.args.generation in
    let r = g.D.Disk.state c.args.disk.now in
    changes_nothing (is_needed from) n (most_files c.args.next) (most_bytes_of n c.args.next) r

pub returns-in_err-needed-clause-cleans : goal.returns-in_err-needed-clause-cleans
returns-in_err-needed-clause-cleans g c =
    let p = err_from_is_err_and c.from_residual.result c.from_residual.ensures.1 in
    cleans_nothing Host (is_left (option_copied c.args.from)) (g.D.Disk.state c.args.disk.now) c.from_residual.result (p.1 ∙ ap Err p.2)

pub open_generation-requires-clause-coming : goal.open_generation-requires-clause-coming
open_generation-requires-clause-coming g c =
    let from = option_copied c.args.from in
    c.in_ok-needed.ensures c.args.generation ∙ ap (is_needed from) c.requires.number ∙ coming_not_needed from c.host_of-before.ensures.opened

pub returns-in_err-open_generation-clause-changes : goal.returns-in_err-open_generation-clause-changes
returns-in_err-open_generation-clause-changes g c =
    let from = option_copied c.args.from in
    let n = c.args.generation in
    let r = g.D.Disk.state c.args.disk.now in
    let same = same_needed (has_generation c.in_ok-needed.needed) (is_needed from) c.in_ok-needed.ensures in
    let s = g.D.Disk.state c.open_generation.new.disk in
    let opens : Changes (is_needed from) n 0 0 r s = subst (λ f. Changes f n 0 0 r s) same c.open_generation.ensures.changes in
    let free : is_needed from n ≡ false = ap (is_needed from) c.requires.number ∙ coming_not_needed from c.host_of-before.ensures.opened in
    changes_wider (is_needed from) n 0 (most_files c.args.next) 0 (most_bytes_of n c.args.next) r s c.requires.positive free (omega arith) (omega arith) opens

pub returns-in_err-open_generation-clause-cleans : goal.returns-in_err-open_generation-clause-cleans
returns-in_err-open_generation-clause-cleans g c =
    let from = option_copied c.args.from in
    let r = g.D.Disk.state c.args.disk.now in
    let s = g.D.Disk.state c.open_generation.new.disk in
    let same = same_needed (has_generation c.in_ok-needed.needed) (is_needed from) c.in_ok-needed.ensures in
    let p = err_from_is_err_and c.from_residual-in_err-open_generation.result c.from_residual-in_err-open_generation.ensures.1 in
    cleans_handed _ Host (is_left from) c.in_err-open_generation.field-0.0 r s c.open_generation.result c.from_residual-in_err-open_generation.result c.in_err-open_generation.was (p.1 ∙ ap Err p.2)
    (subst (λ f. Cleans (is_left_path f) c.open_generation.result r s) same c.open_generation.ensures.cleans)

pub returns-in_err-open_generation-clause-cause : goal.returns-in_err-open_generation-clause-cause
returns-in_err-open_generation-clause-cause g c =
    let from = option_copied c.args.from in
    let n = c.args.generation in
    let r = g.D.Disk.state c.args.disk.now in
    let p = err_from_is_err_and c.from_residual-in_err-open_generation.result c.from_residual-in_err-open_generation.ensures.1 in
    rw (p.1, p.2) (change_cause_clear c.in_err-open_generation.field-0.0 r (g.D.Disk.state c.open_generation.new.disk) (g.P.Depot.state c.args.depot.now) (g.P.Depot.state c.args.depot.now)
    (stored_by (host_before from) r) n (c.args.next.root ++ c.args.next.lower) c.in_err-open_generation.ensures.cause)

pub fill_generation-requires-clause-sizes : goal.fill_generation-requires-clause-sizes
fill_generation-requires-clause-sizes g c =
    limits_small (present c.args.next) c.requires.valid.present.limits

pub fill_generation-requires-clause-entries : goal.fill_generation-requires-clause-entries
fill_generation-requires-clause-entries g c =
    c.requires.valid.present.limits.entries

pub fill_generation-requires-clause-earlier : goal.fill_generation-requires-clause-earlier
fill_generation-requires-clause-earlier g c =
    let from = option_copied c.args.from in
    subst (λ o. AreHomesBefore c.args.generation (trees_before o)) (sym c.host_of-before.ensures.host)
    (subst (λ k. AreHomesBefore k (trees_before (host_before from))) (sym c.requires.number) (homes_before from c.host_of-before.ensures.opened))

pub fill_generation-requires-clause-empty : goal.fill_generation-requires-clause-empty
fill_generation-requires-clause-empty g c =
    open_made (has_generation c.in_ok-needed.needed) c.args.generation (g.D.Disk.state c.open_generation.new.disk) c.in_ok-open_generation.ensures.open

pub fill_generation-requires-clause-no_next : goal.fill_generation-requires-clause-no_next
fill_generation-requires-clause-no_next g c =
    open_no_next (has_generation c.in_ok-needed.needed) c.args.generation (g.D.Disk.state c.open_generation.new.disk) c.in_ok-open_generation.ensures.open

pub returns-in_err-placed-clause-changes : goal.returns-in_err-placed-clause-changes
returns-in_err-placed-clause-changes g c =
    let from = option_copied c.args.from in
    let n = c.args.generation in
    let r = g.D.Disk.state c.args.disk.now in
    let same = same_needed (has_generation c.in_ok-needed.needed) (is_needed from) c.in_ok-needed.ensures in
    let s = g.D.Disk.state c.open_generation.new.disk in
    let opens : Changes (is_needed from) n 0 0 r s = subst (λ f. Changes f n 0 0 r s) same c.open_generation.ensures.changes in
    let free : is_needed from n ≡ false = ap (is_needed from) c.requires.number ∙ coming_not_needed from c.host_of-before.ensures.opened in
    let t = g.D.Disk.state c.fill_generation.new.disk in
    let files = most_files c.args.next in
    let bytes = bytes_of_all (brought (c.args.next.root ++ c.args.next.lower)) in
    let filled : Changes (is_needed from) n files bytes r t =
    changes_then (is_needed from) n 0 files files 0 bytes bytes r s t c.requires.positive free (omega arith) (omega arith) (omega arith) opens c.fill_generation.ensures.makes in
    changes_wider (is_needed from) n files files bytes (most_bytes_of n c.args.next) r t c.requires.positive free (omega arith) (omega arith) filled

pub returns-in_err-placed-clause-cleans : goal.returns-in_err-placed-clause-cleans
returns-in_err-placed-clause-cleans g c =
    let from = option_copied c.args.from in
    let n = c.args.generation in
    let r = g.D.Disk.state c.args.disk.now in
    let same = same_needed (has_generation c.in_ok-needed.needed) (is_needed from) c.in_ok-needed.ensures in
    let s = g.D.Disk.state c.open_generation.new.disk in
    let opens : Changes (is_needed from) n 0 0 r s = subst (λ f. Changes f n 0 0 r s) same c.open_generation.ensures.changes in
    let free : is_needed from n ≡ false = ap (is_needed from) c.requires.number ∙ coming_not_needed from c.host_of-before.ensures.opened in
    let t = g.D.Disk.state c.fill_generation.new.disk in
    let files = most_files c.args.next in
    let bytes = bytes_of_all (brought (c.args.next.root ++ c.args.next.lower)) in
    let filled : Changes (is_needed from) n files bytes r t =
    changes_then (is_needed from) n 0 files files 0 bytes bytes r s t c.requires.positive free (omega arith) (omega arith) (omega arith) opens c.fill_generation.ensures.makes in
    let p = err_from_is_err_and c.from_residual-in_err-placed.result c.from_residual-in_err-placed.ensures.1 in
    cleans_later _ Host _ (is_left from) _ r.told s.told t.told c.open_generation.result c.from_residual-in_err-placed.result c.in_ok-open_generation.was
    (failed_finished Host c.in_err-placed.field-0.0 c.from_residual-in_err-placed.result (p.1 ∙ ap Err p.2)
    (fill_finished s t (g.P.Depot.state c.args.depot.now) (g.P.Depot.state c.fill_generation.new.depot) (stored_by (option_copied c.host_of-before.result) s) n (c.args.next.root ++ c.args.next.lower)
    c.in_err-placed.field-0.0 c.in_err-placed.ensures.cause))
    (subst (λ f. Cleans (is_left_path f) c.open_generation.result r s) same c.open_generation.ensures.cleans) filled.told

pub returns-in_err-placed-clause-cause : goal.returns-in_err-placed-clause-cause
returns-in_err-placed-clause-cause g c =
    let from = option_copied c.args.from in
    let n = c.args.generation in
    let r = g.D.Disk.state c.args.disk.now in
    let same = same_needed (has_generation c.in_ok-needed.needed) (is_needed from) c.in_ok-needed.ensures in
    let s = g.D.Disk.state c.open_generation.new.disk in
    let opens : Changes (is_needed from) n 0 0 r s = subst (λ f. Changes f n 0 0 r s) same c.open_generation.ensures.changes in
    let free : is_needed from n ≡ false = ap (is_needed from) c.requires.number ∙ coming_not_needed from c.host_of-before.ensures.opened in
    let p = err_from_is_err_and c.from_residual-in_err-placed.result c.from_residual-in_err-placed.ensures.1 in
    rw (p.1, p.2) (change_cause_fill from c.host_of-before.ensures.opened c.in_err-placed.field-0.0 r s (g.D.Disk.state c.fill_generation.new.disk) (g.P.Depot.state c.args.depot.now)
    (g.P.Depot.state c.fill_generation.new.depot) n (c.args.next.root ++ c.args.next.lower) opens.spares
    (subst (λ o. FillCause s (g.D.Disk.state c.fill_generation.new.disk) (g.P.Depot.state c.args.depot.now) (g.P.Depot.state c.fill_generation.new.depot) (stored_by o s) n
    (c.args.next.root ++ c.args.next.lower) c.in_err-placed.field-0.0) c.host_of-before.ensures.host c.in_err-placed.ensures.cause))

pub finish_generation-requires-clause-folder : goal.finish_generation-requires-clause-folder
finish_generation-requires-clause-folder g c =
    filled_folder c.args.generation c.in_ok-placed.ensures.fills.written (g.D.Disk.state c.open_generation.new.disk) (g.D.Disk.state c.fill_generation.new.disk) c.in_ok-placed.ensures.fills.told

pub finish_generation-requires-clause-no_index : goal.finish_generation-requires-clause-no_index
finish_generation-requires-clause-no_index g c =
    filled_no_index c.args.generation c.in_ok-placed.ensures.fills.written (g.D.Disk.state c.open_generation.new.disk) (g.D.Disk.state c.fill_generation.new.disk) c.in_ok-placed.ensures.fills.told

pub finish_generation-requires-clause-no_next : goal.finish_generation-requires-clause-no_next
finish_generation-requires-clause-no_next g c =
    filled_no_next c.args.generation c.in_ok-placed.ensures.fills.written (g.D.Disk.state c.open_generation.new.disk) (g.D.Disk.state c.fill_generation.new.disk) c.in_ok-placed.ensures.fills.told

pub returns-in_err-finish_generation-clause-changes : goal.returns-in_err-finish_generation-clause-changes
returns-in_err-finish_generation-clause-changes g c =
    let from = option_copied c.args.from in
    let n = c.args.generation in
    let r = g.D.Disk.state c.args.disk.now in
    let same = same_needed (has_generation c.in_ok-needed.needed) (is_needed from) c.in_ok-needed.ensures in
    let s = g.D.Disk.state c.open_generation.new.disk in
    let opens : Changes (is_needed from) n 0 0 r s = subst (λ f. Changes f n 0 0 r s) same c.open_generation.ensures.changes in
    let free : is_needed from n ≡ false = ap (is_needed from) c.requires.number ∙ coming_not_needed from c.host_of-before.ensures.opened in
    let t = g.D.Disk.state c.fill_generation.new.disk in
    let files = most_files c.args.next in
    let bytes = bytes_of_all (brought (c.args.next.root ++ c.args.next.lower)) in
    let filled : Changes (is_needed from) n files bytes r t =
    changes_then (is_needed from) n 0 files files 0 bytes bytes r s t c.requires.positive free (omega arith) (omega arith) (omega arith) opens c.fill_generation.ensures.makes in
    let fills = subst (λ o. Fills o n c.args.next s t (g.P.Depot.state c.args.depot.now) c.in_ok-placed.placed) c.host_of-before.ensures.host c.in_ok-placed.ensures.fills in
    let shorter = coming_is_shorter from n c.args.next c.in_ok-placed.placed.host s (g.P.Depot.state c.args.depot.now) fills.written c.host_of-before.ensures.opened c.requires.number c.requires.positive fills.homes in
    let u = g.D.Disk.state c.finish_generation.new.disk in
    let ours = length (coming_index n c.in_ok-placed.placed.host) + length (current_text n) in
    let most = most_bytes_of n c.args.next in
    let ended : Changes (is_needed from) n files most r u =
    changes_then (is_needed from) n files 0 files bytes ours most r t u c.requires.positive free (omega arith) (omega arith) (omega (arith, shorter)) filled c.finish_generation.ensures.makes in
    ended

pub returns-in_err-finish_generation-clause-cleans : goal.returns-in_err-finish_generation-clause-cleans
returns-in_err-finish_generation-clause-cleans g c =
    let from = option_copied c.args.from in
    let n = c.args.generation in
    let r = g.D.Disk.state c.args.disk.now in
    let same = same_needed (has_generation c.in_ok-needed.needed) (is_needed from) c.in_ok-needed.ensures in
    let s = g.D.Disk.state c.open_generation.new.disk in
    let opens : Changes (is_needed from) n 0 0 r s = subst (λ f. Changes f n 0 0 r s) same c.open_generation.ensures.changes in
    let free : is_needed from n ≡ false = ap (is_needed from) c.requires.number ∙ coming_not_needed from c.host_of-before.ensures.opened in
    let t = g.D.Disk.state c.fill_generation.new.disk in
    let files = most_files c.args.next in
    let bytes = bytes_of_all (brought (c.args.next.root ++ c.args.next.lower)) in
    let filled : Changes (is_needed from) n files bytes r t =
    changes_then (is_needed from) n 0 files files 0 bytes bytes r s t c.requires.positive free (omega arith) (omega arith) (omega arith) opens c.fill_generation.ensures.makes in
    let fills = subst (λ o. Fills o n c.args.next s t (g.P.Depot.state c.args.depot.now) c.in_ok-placed.placed) c.host_of-before.ensures.host c.in_ok-placed.ensures.fills in
    let shorter = coming_is_shorter from n c.args.next c.in_ok-placed.placed.host s (g.P.Depot.state c.args.depot.now) fills.written c.host_of-before.ensures.opened c.requires.number c.requires.positive fills.homes in
    let u = g.D.Disk.state c.finish_generation.new.disk in
    let ours = length (coming_index n c.in_ok-placed.placed.host) + length (current_text n) in
    let most = most_bytes_of n c.args.next in
    let ended : Changes (is_needed from) n files most r u =
    changes_then (is_needed from) n files 0 files bytes ours most r t u c.requires.positive free (omega arith) (omega arith) (omega (arith, shorter)) filled c.finish_generation.ensures.makes in
    let p = err_from_is_err_and c.from_residual-in_err-finish_generation.result c.from_residual-in_err-finish_generation.ensures.1 in
    cleans_later _ Host _ (is_left from) _ r.told s.told u.told c.open_generation.result c.from_residual-in_err-finish_generation.result c.in_ok-open_generation.was
    (failed_finished Host c.in_err-finish_generation.field-0.0 c.from_residual-in_err-finish_generation.result (p.1 ∙ ap Err p.2)
    (write_finished t.faults u.faults c.in_err-finish_generation.field-0.0 c.in_err-finish_generation.ensures.cause))
    (subst (λ f. Cleans (is_left_path f) c.open_generation.result r s) same c.open_generation.ensures.cleans) ended.told

pub returns-in_err-finish_generation-clause-cause : goal.returns-in_err-finish_generation-clause-cause
returns-in_err-finish_generation-clause-cause g c =
    let from = option_copied c.args.from in
    let n = c.args.generation in
    let r = g.D.Disk.state c.args.disk.now in
    let same = same_needed (has_generation c.in_ok-needed.needed) (is_needed from) c.in_ok-needed.ensures in
    let s = g.D.Disk.state c.open_generation.new.disk in
    let opens : Changes (is_needed from) n 0 0 r s = subst (λ f. Changes f n 0 0 r s) same c.open_generation.ensures.changes in
    let free : is_needed from n ≡ false = ap (is_needed from) c.requires.number ∙ coming_not_needed from c.host_of-before.ensures.opened in
    let t = g.D.Disk.state c.fill_generation.new.disk in
    let files = most_files c.args.next in
    let bytes = bytes_of_all (brought (c.args.next.root ++ c.args.next.lower)) in
    let filled : Changes (is_needed from) n files bytes r t =
    changes_then (is_needed from) n 0 files files 0 bytes bytes r s t c.requires.positive free (omega arith) (omega arith) (omega arith) opens c.fill_generation.ensures.makes in
    let p = err_from_is_err_and c.from_residual-in_err-finish_generation.result c.from_residual-in_err-finish_generation.ensures.1 in
    rw (p.1, p.2) (change_cause_write c.in_err-finish_generation.field-0.0 r t (g.D.Disk.state c.finish_generation.new.disk) (g.P.Depot.state c.args.depot.now)
    (g.P.Depot.state c.fill_generation.new.depot) (stored_by (host_before from) r) n (c.args.next.root ++ c.args.next.lower) filled.spares.follows.count c.in_err-finish_generation.ensures.cause)

pub returns-clause-changes : goal.returns-clause-changes
returns-clause-changes g c =
    let from = option_copied c.args.from in
    let n = c.args.generation in
    let r = g.D.Disk.state c.args.disk.now in
    let same = same_needed (has_generation c.in_ok-needed.needed) (is_needed from) c.in_ok-needed.ensures in
    let s = g.D.Disk.state c.open_generation.new.disk in
    let opens : Changes (is_needed from) n 0 0 r s = subst (λ f. Changes f n 0 0 r s) same c.open_generation.ensures.changes in
    let free : is_needed from n ≡ false = ap (is_needed from) c.requires.number ∙ coming_not_needed from c.host_of-before.ensures.opened in
    let t = g.D.Disk.state c.fill_generation.new.disk in
    let files = most_files c.args.next in
    let bytes = bytes_of_all (brought (c.args.next.root ++ c.args.next.lower)) in
    let filled : Changes (is_needed from) n files bytes r t =
    changes_then (is_needed from) n 0 files files 0 bytes bytes r s t c.requires.positive free (omega arith) (omega arith) (omega arith) opens c.fill_generation.ensures.makes in
    let fills = subst (λ o. Fills o n c.args.next s t (g.P.Depot.state c.args.depot.now) c.in_ok-placed.placed) c.host_of-before.ensures.host c.in_ok-placed.ensures.fills in
    let shorter = coming_is_shorter from n c.args.next c.in_ok-placed.placed.host s (g.P.Depot.state c.args.depot.now) fills.written c.host_of-before.ensures.opened c.requires.number c.requires.positive fills.homes in
    let u = g.D.Disk.state c.finish_generation.new.disk in
    let ours = length (coming_index n c.in_ok-placed.placed.host) + length (current_text n) in
    let most = most_bytes_of n c.args.next in
    let ended : Changes (is_needed from) n files most r u =
    changes_then (is_needed from) n files 0 files bytes ours most r t u c.requires.positive free (omega arith) (omega arith) (omega (arith, shorter)) filled c.finish_generation.ensures.makes in
    ended

pub returns-clause-cleans : goal.returns-clause-cleans
returns-clause-cleans g c =
    let from = option_copied c.args.from in
    let n = c.args.generation in
    let r = g.D.Disk.state c.args.disk.now in
    let same = same_needed (has_generation c.in_ok-needed.needed) (is_needed from) c.in_ok-needed.ensures in
    let s = g.D.Disk.state c.open_generation.new.disk in
    let opens : Changes (is_needed from) n 0 0 r s = subst (λ f. Changes f n 0 0 r s) same c.open_generation.ensures.changes in
    let free : is_needed from n ≡ false = ap (is_needed from) c.requires.number ∙ coming_not_needed from c.host_of-before.ensures.opened in
    let t = g.D.Disk.state c.fill_generation.new.disk in
    let files = most_files c.args.next in
    let bytes = bytes_of_all (brought (c.args.next.root ++ c.args.next.lower)) in
    let filled : Changes (is_needed from) n files bytes r t =
    changes_then (is_needed from) n 0 files files 0 bytes bytes r s t c.requires.positive free (omega arith) (omega arith) (omega arith) opens c.fill_generation.ensures.makes in
    let fills = subst (λ o. Fills o n c.args.next s t (g.P.Depot.state c.args.depot.now) c.in_ok-placed.placed) c.host_of-before.ensures.host c.in_ok-placed.ensures.fills in
    let shorter = coming_is_shorter from n c.args.next c.in_ok-placed.placed.host s (g.P.Depot.state c.args.depot.now) fills.written c.host_of-before.ensures.opened c.requires.number c.requires.positive fills.homes in
    let u = g.D.Disk.state c.finish_generation.new.disk in
    let ours = length (coming_index n c.in_ok-placed.placed.host) + length (current_text n) in
    let most = most_bytes_of n c.args.next in
    let ended : Changes (is_needed from) n files most r u =
    changes_then (is_needed from) n files 0 files bytes ours most r t u c.requires.positive free (omega arith) (omega arith) (omega (arith, shorter)) filled c.finish_generation.ensures.makes in
    cleans_done _ Host _ c.in_ok-placed.placed.host (is_left from) _ r.told s.told u.told c.open_generation.result _ c.in_ok-open_generation.was refl
    (subst (λ f. Cleans (is_left_path f) c.open_generation.result r s) same c.open_generation.ensures.cleans) ended.told

pub returns-clause-changed : goal.returns-clause-changed
returns-clause-changed g c =
    let from = option_copied c.args.from in
    let n = c.args.generation in
    let r = g.D.Disk.state c.args.disk.now in
    let same = same_needed (has_generation c.in_ok-needed.needed) (is_needed from) c.in_ok-needed.ensures in
    let s = g.D.Disk.state c.open_generation.new.disk in
    let opens : Changes (is_needed from) n 0 0 r s = subst (λ f. Changes f n 0 0 r s) same c.open_generation.ensures.changes in
    let free : is_needed from n ≡ false = ap (is_needed from) c.requires.number ∙ coming_not_needed from c.host_of-before.ensures.opened in
    let t = g.D.Disk.state c.fill_generation.new.disk in
    let files = most_files c.args.next in
    let bytes = bytes_of_all (brought (c.args.next.root ++ c.args.next.lower)) in
    let filled : Changes (is_needed from) n files bytes r t =
    changes_then (is_needed from) n 0 files files 0 bytes bytes r s t c.requires.positive free (omega arith) (omega arith) (omega arith) opens c.fill_generation.ensures.makes in
    let fills = subst (λ o. Fills o n c.args.next s t (g.P.Depot.state c.args.depot.now) c.in_ok-placed.placed) c.host_of-before.ensures.host c.in_ok-placed.ensures.fills in
    let u = g.D.Disk.state c.finish_generation.new.disk in
    let host = c.in_ok-placed.placed.host in
    let depot = g.P.Depot.state c.args.depot.now in
    record {
      written = fills.written;
      homes = homes_since from c.host_of-before.ensures.opened r s depot n c.args.next host fills.written opens.spares fills.homes;
      opened = coming_is_opened from n c.args.next host s depot fills.written c.host_of-before.ensures.opened c.requires.number c.requires.positive c.requires.valid c.requires.drawn c.requires.kept
          c.requires.past c.requires.fits fills.homes c.well_formed_host.ensures;
      told = changed_told (is_needed from) n files bytes host fills.written r s t u opens (subst (λ f. Holds (IsGenerationOpen f n) s) same c.in_ok-open_generation.ensures.open) fills.told
          c.fill_generation.ensures.makes c.in_ok-finish_generation.ensures.completes c.finish_generation.ensures.makes c.in_ok-finish_generation.ensures.raises;
    }
