use Rattle.std.specs.List.{flat_map}
use Rattle.std.proofs.lemmas.Result.{err_from_is_err_and}
use Rattle.ext_gen.specs.Checking.{files_of_both, files_of_past}
use Rattle.ext_gen.proofs.CheckingLemmas.{checked_more, few_pasts, host_bytes, host_files, may_check_pasts, may_check_present, stops_later}
use Rattle.ext_gen.proofs.VerifiedLemmas.{none_verified}
use Rattle.ext_gen.proofs.checking.check.Goals as goal

pub check_both-requires-clause-known : goal.check_both-requires-clause-known
check_both-requires-clause-known g c = none_verified (g.D.Disk.state c.args.disk.now) c.new-verified.result c.new-verified.ensures.empty

pub check_pasts-requires-clause-each : goal.check_pasts-requires-clause-each
check_pasts-requires-clause-each g c = may_check_pasts c.args.host.now c.as_slice.result.now c.as_slice.ensures c.requires.valid c.requires.served

pub returns-in_err-past-clause-cause : goal.returns-in_err-past-clause-cause
returns-in_err-past-clause-cause g c =
    let p = err_from_is_err_and c.from_residual-in_err-past.result c.from_residual-in_err-past.ensures.1 in
    rw (p.1, p.2, ← c.as_slice.ensures)
    (stops_later (g.D.Disk.state c.args.disk.now) (g.D.Disk.state c.check_both.new.disk) (g.D.Disk.state c.check_pasts.new.disk)
    (files_of_both c.args.host.now.root c.args.host.now.lower) (flat_map files_of_past c.as_slice.result.now) _ _
    c.in_ok-present.ensures.rests c.in_ok-present.ensures.checked c.in_err-past.ensures.cause)

pub sum-requires-clause-files : goal.sum-requires-clause-files
sum-requires-clause-files g c =
    host_files c.args.host.now c.as_slice.result.now _ _ (may_check_present c.args.host.now c.requires.valid)
    (may_check_pasts c.args.host.now c.as_slice.result.now c.as_slice.ensures c.requires.valid c.requires.served) (few_pasts c.args.host.now _ c.as_slice.ensures c.requires.valid)
    c.in_ok-present.ensures.checked.number c.in_ok-past.ensures.checked.number

pub sum-requires-clause-bytes : goal.sum-requires-clause-bytes
sum-requires-clause-bytes g c =
    host_bytes c.args.host.now c.as_slice.result.now _ _ (may_check_present c.args.host.now c.requires.valid)
    (may_check_pasts c.args.host.now c.as_slice.result.now c.as_slice.ensures c.requires.valid c.requires.served) (few_pasts c.args.host.now _ c.as_slice.ensures c.requires.valid)
    c.in_ok-present.ensures.checked.bytes c.in_ok-past.ensures.checked.bytes

pub returns-clause-checked : goal.returns-clause-checked
returns-clause-checked g c =
    rw (← c.as_slice.ensures)
    (checked_more (g.D.Disk.state c.args.disk.now) (g.D.Disk.state c.check_both.new.disk) (files_of_both c.args.host.now.root c.args.host.now.lower) (flat_map files_of_past c.as_slice.result.now) _ _ c.sum.result
    c.in_ok-present.ensures.rests c.in_ok-present.ensures.checked c.in_ok-past.ensures.checked c.sum.ensures.files c.sum.ensures.bytes)
