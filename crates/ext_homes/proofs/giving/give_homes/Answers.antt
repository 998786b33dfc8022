use Rattle.std.proofs.Common.{◌++◌, refl}
use Rattle.std.specs.Option.{option_copied}
use Rattle.std.proofs.lemmas.Result.{err_from_is_err_and}
use Rattle.ext_homes.specs.Brought.{brought, bytes_of_all}
use Rattle.ext_homes.proofs.GivingLemmas.{host_cause, host_given, listed_before, new_homes, nothing_works}
use Rattle.ext_homes.proofs.giving.give_homes.Goals as goal

pub returns-in_err-sought-clause-works : goal.returns-in_err-sought-clause-works
returns-in_err-sought-clause-works g c =
    nothing_works c.args.generation (bytes_of_all (brought (c.args.host.root ++ c.args.host.lower))) (g.D.Disk.state c.args.disk.now)

pub returns-in_err-kept-clause-works : goal.returns-in_err-kept-clause-works
returns-in_err-kept-clause-works g c =
    nothing_works c.args.generation (bytes_of_all (brought (c.args.host.root ++ c.args.host.lower))) (g.D.Disk.state c.args.disk.now)

pub place_both-requires-clause-before : goal.place_both-requires-clause-before
place_both-requires-clause-before g c = listed_before c.args.generation (option_copied c.args.from) c.in_ok-sought.sought c.in_ok-kept.kept c.in_ok-kept.ensures c.requires.earlier

pub place_both-requires-clause-homes : goal.place_both-requires-clause-homes
place_both-requires-clause-homes g c = new_homes c.args.generation (g.D.Disk.state c.args.disk.now) c.requires.empty

pub returns-clause-placed : goal.returns-clause-placed
returns-clause-placed g c =
    host_given (option_copied c.args.from) c.in_ok-sought.sought c.in_ok-kept.kept c.args.generation c.in_ok-both.both.files c.args.host c.in_ok-both.both.root c.in_ok-both.both.lower (g.D.Disk.state c.args.disk.now)
    (g.D.Disk.state c.place_both.new.disk) (g.P.Depot.state c.args.depot.now) _ c.in_ok-kept.ensures c.in_ok-sought.ensures.root c.in_ok-sought.ensures.lower c.in_ok-both.ensures.placed refl

pub returns-in_err-both-clause-cause : goal.returns-in_err-both-clause-cause
returns-in_err-both-clause-cause g c =
    let p = err_from_is_err_and c.from_residual-in_err-both.result c.from_residual-in_err-both.ensures.1 in
    rw (p.1, p.2) (host_cause (option_copied c.args.from) c.in_ok-sought.sought c.in_ok-kept.kept c.args.generation c.args.host.root c.args.host.lower _ (g.D.Disk.state c.args.disk.now) (g.D.Disk.state c.place_both.new.disk)
    (g.P.Depot.state c.args.depot.now) (g.P.Depot.state c.place_both.new.depot) c.in_ok-kept.ensures c.in_ok-sought.ensures.root c.in_ok-sought.ensures.lower c.in_err-both.ensures.cause)
