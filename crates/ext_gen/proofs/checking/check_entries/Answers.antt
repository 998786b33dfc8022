use Rattle.std.proofs.Common.{suc, ◌^◌, drop, take}
use Rattle.std.proofs.lemmas.Result.{err_from_is_err_and}
use Rattle.ext_gen.specs.Checking.{files_in, files_of}
use Rattle.ext_gen.proofs.CheckingLemmas.{bytes_fit, files_split, number_fits, served_here, stops_early, stops_later}
use Rattle.ext_gen.proofs.checking.check_entries.Goals as goal

pub check_entry-requires-clause-served : goal.check_entry-requires-clause-served
check_entry-requires-clause-served g c = served_here c.args.entries.now c.entries.entry-index c.entry-item.result c.entries-test.true c.entry-item.is c.requires.served

pub returns-in_err-more-clause-cause : goal.returns-in_err-more-clause-cause
returns-in_err-more-clause-cause g c =
    let p = err_from_is_err_and c.from_residual.result c.from_residual.ensures.1 in
    rw (p.1, p.2, files_split (λ e. files_in e.1) c.args.entries.now c.entries.entry-index c.entry-item.result c.entries-test.true c.entry-item.is)
    (stops_later (g.D.Disk.state c.args.disk.now) (g.D.Disk.state c.entries.disk) (g.D.Disk.state c.check_entry.new.disk) (files_of (take c.entries.entry-index c.args.entries.now)) _ _ _ c.entries.invariant.0 c.entries.invariant.1
    (stops_early _ _ (files_in c.entry-item.result.1) (files_of (drop (suc c.entries.entry-index) c.args.entries.now)) _ c.in_err-more.ensures.cause))

pub sum-counts-requires-clause-files : goal.sum-counts-requires-clause-files
sum-counts-requires-clause-files g c =
    number_fits (files_of c.args.entries.now) (files_of (take c.entries.entry-index c.args.entries.now)) (files_in c.entry-item.result.1) (files_of (drop (suc c.entries.entry-index) c.args.entries.now)) _ _ (2 ^ 64)
    (files_split (λ e. files_in e.1) c.args.entries.now c.entries.entry-index c.entry-item.result c.entries-test.true c.entry-item.is)
    c.entries.invariant.1.number c.in_ok-more.ensures.checked.number c.requires.few

pub sum-counts-requires-clause-bytes : goal.sum-counts-requires-clause-bytes
sum-counts-requires-clause-bytes g c =
    bytes_fit (files_of c.args.entries.now) (files_of (take c.entries.entry-index c.args.entries.now)) (files_in c.entry-item.result.1) (files_of (drop (suc c.entries.entry-index) c.args.entries.now)) _ _ (2 ^ 64)
    (files_split (λ e. files_in e.1) c.args.entries.now c.entries.entry-index c.entry-item.result c.entries-test.true c.entry-item.is)
    c.entries.invariant.1.bytes c.in_ok-more.ensures.checked.bytes c.requires.small
