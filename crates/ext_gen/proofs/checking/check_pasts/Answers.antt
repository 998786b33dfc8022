use Rattle.std.proofs.Common.{suc, ◌^◌, drop, take}
use Rattle.std.specs.List.{flat_map}
use Rattle.std.proofs.lemmas.Result.{err_from_is_err_and}
use Rattle.ext_disk.proofs.ForCallers.{rests_then}
use Rattle.ext_gen.specs.Checking.{MayCheckPast, files_of_past}
use Rattle.ext_gen.proofs.CheckingLemmas.{bytes_fit, checked_more, each_here, files_next, few_of_pasts, files_split, number_fits, small_of_pasts, stops_early, stops_later}
use Rattle.ext_gen.proofs.checking.check_pasts.Goals as goal

pub check_both-requires-clause-counted : goal.check_both-requires-clause-counted
check_both-requires-clause-counted g c = (each_here MayCheckPast c.args.pasts.now c.pasts.past-index c.past-item.result c.pasts-test.true c.past-item.is c.requires.each).counted

pub check_both-requires-clause-served : goal.check_both-requires-clause-served
check_both-requires-clause-served g c = (each_here MayCheckPast c.args.pasts.now c.pasts.past-index c.past-item.result c.pasts-test.true c.past-item.is c.requires.each).served

pub returns-in_err-more-clause-cause : goal.returns-in_err-more-clause-cause
returns-in_err-more-clause-cause g c =
    let p = err_from_is_err_and c.from_residual.result c.from_residual.ensures.1 in
    rw (p.1, p.2, files_split files_of_past c.args.pasts.now c.pasts.past-index c.past-item.result c.pasts-test.true c.past-item.is)
    (stops_later (g.D.Disk.state c.args.disk.now) (g.D.Disk.state c.pasts.disk) (g.D.Disk.state c.check_both.new.disk) (flat_map files_of_past (take c.pasts.past-index c.args.pasts.now)) _ _ _ c.pasts.invariant.0 c.pasts.invariant.1
    (stops_early _ _ (files_of_past c.past-item.result) (flat_map files_of_past (drop (suc c.pasts.past-index) c.args.pasts.now)) _ c.in_err-more.ensures.cause))

pub sum-counts-requires-clause-files : goal.sum-counts-requires-clause-files
sum-counts-requires-clause-files g c =
    number_fits (flat_map files_of_past c.args.pasts.now) (flat_map files_of_past (take c.pasts.past-index c.args.pasts.now)) (files_of_past c.past-item.result) (flat_map files_of_past (drop (suc c.pasts.past-index) c.args.pasts.now)) _ _ (2 ^ 64)
    (files_split files_of_past c.args.pasts.now c.pasts.past-index c.past-item.result c.pasts-test.true c.past-item.is)
    c.pasts.invariant.1.number c.in_ok-more.ensures.checked.number (few_of_pasts c.args.pasts.now c.requires.each c.requires.few)

pub sum-counts-requires-clause-bytes : goal.sum-counts-requires-clause-bytes
sum-counts-requires-clause-bytes g c =
    bytes_fit (flat_map files_of_past c.args.pasts.now) (flat_map files_of_past (take c.pasts.past-index c.args.pasts.now)) (files_of_past c.past-item.result) (flat_map files_of_past (drop (suc c.pasts.past-index) c.args.pasts.now)) _ _ (2 ^ 64)
    (files_split files_of_past c.args.pasts.now c.pasts.past-index c.past-item.result c.pasts-test.true c.past-item.is)
    c.pasts.invariant.1.bytes c.in_ok-more.ensures.checked.bytes (small_of_pasts c.args.pasts.now c.requires.each c.requires.few)

pub pasts-preserved : goal.pasts-preserved
pasts-preserved g c = (
  rests_then (g.D.Disk.state c.args.disk.now) (g.D.Disk.state c.pasts.disk) (g.D.Disk.state c.check_both.new.disk) c.pasts.invariant.0 c.in_ok-more.ensures.rests,
  rw (files_next files_of_past c.args.pasts.now c.pasts.past-index c.past-item.result c.pasts-test.true c.past-item.is)
      (checked_more (g.D.Disk.state c.args.disk.now) (g.D.Disk.state c.pasts.disk) (flat_map files_of_past (take c.pasts.past-index c.args.pasts.now)) (files_of_past c.past-item.result) _ _ c.sum-counts.result
      c.pasts.invariant.0 c.pasts.invariant.1 c.in_ok-more.ensures.checked c.sum-counts.ensures.files c.sum-counts.ensures.bytes),
  c.in_ok-more.ensures.known,
)
