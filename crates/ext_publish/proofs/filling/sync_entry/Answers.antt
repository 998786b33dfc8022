use Rattle.std.proofs.Common.{◌≡◌, ◌++◌, IfSome, subst, sym, true}
use Rattle.std.specs.Prelude.{OnOk}
use Rattle.ext_disk.specs.Disk.{is_file, is_synced}
use Rattle.ext_store_files.specs.Writing.{Holds, nowhere}
use Rattle.ext_store_files.proofs.ForCallers.{works_itself}
use Rattle.ext_publish.proofs.filling.sync_entry.Goals as goal

pub returns-in-None-clause-works : goal.returns-in-None-clause-works
returns-in-None-clause-works g c = works_itself nowhere nowhere (g.O.Disk.state c.args.out.now)

pub returns-in-None-clause-named : goal.returns-in-None-clause-named
returns-in-None-clause-named g c =
    subst (λ o. IfSome o (λ held. Holds (λ e. is_synced (e (c.args.resource.now ++ c.args.pair.now.0)) ≡ true) (g.O.Disk.state c.args.out.now))) c.in-None.ensures tt

pub sync_parent-requires-clause-file : goal.sync_parent-requires-clause-file
sync_parent-requires-clause-file g c =
    subst (λ o. IfSome o (λ held. IfSome (g.O.Disk.state c.args.out.now).told (λ d. is_file (d.places (c.args.resource.now ++ c.args.pair.now.0)).node ≡ true))) (sym c.in-Some.ensures) c.requires.file

pub returns-in-Some-clause-named : goal.returns-in-Some-clause-named
returns-in-Some-clause-named g c =
    subst (λ o. OnOk c.sync_parent.result (IfSome o (λ held. Holds (λ e. is_synced (e (c.args.resource.now ++ c.args.pair.now.0)) ≡ true) (g.O.Disk.state c.sync_parent.new.out)))) c.in-Some.ensures c.sync_parent.ensures.named
