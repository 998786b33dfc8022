use Rattle.std.proofs.Common.{◌≡◌, ◌++◌, IfSome, refl, subst, sym, true}
use Rattle.std.specs.Prelude.{IfErr, OnOk}
use Rattle.ext_text.specs.Path.{is_prefix}
use Rattle.ext_disk.proofs.ForCallers.{rests_itself, spares_itself}
use Rattle.ext_store_files.specs.HeldFiles.{is_served}
use Rattle.ext_publish.specs.Filling.{WrittenEntryCause, MayWriteOne, WritesEntry}
use Rattle.ext_publish.proofs.filling.write_entry.Goals as goal

pub returns-in-None-clause-spares : goal.returns-in-None-clause-spares
returns-in-None-clause-spares g c = spares_itself (is_prefix c.args.resource.now) (g.O.Disk.state c.args.out.now)

pub returns-in-None-clause-rests : goal.returns-in-None-clause-rests
returns-in-None-clause-rests g c = rests_itself (g.D.Disk.state c.args.store.now)

pub returns-in-None-clause-done : goal.returns-in-None-clause-done
returns-in-None-clause-done g c =
    subst (λ o. WritesEntry (g.D.Disk.state c.args.store.now) o (c.args.resource.now ++ c.args.pair.now.0) (g.O.Disk.state c.args.out.now) (g.O.Disk.state c.args.out.now)) c.in-None.ensures refl

pub write_one-requires-clause-served : goal.write_one-requires-clause-served
write_one-requires-clause-served g c = subst (λ o. IfSome o (λ held. is_served held.body ≡ true)) (sym c.in-Some.ensures) c.requires.served

pub write_one-requires-clause-may : goal.write_one-requires-clause-may
write_one-requires-clause-may g c =
    subst (λ o. IfSome o (λ held. IfSome (g.O.Disk.state c.args.out.now).told (λ d. MayWriteOne c.args.folder.now (c.args.resource.now ++ c.args.pair.now.0) d.places))) (sym c.in-Some.ensures) c.requires.may

pub returns-in-Some-clause-done : goal.returns-in-Some-clause-done
returns-in-Some-clause-done g c =
    subst (λ o. OnOk c.write_one.result (WritesEntry (g.D.Disk.state c.args.store.now) o (c.args.resource.now ++ c.args.pair.now.0) (g.O.Disk.state c.args.out.now) (g.O.Disk.state c.write_one.new.out))) c.in-Some.ensures c.write_one.ensures.done

pub returns-in-Some-clause-cause : goal.returns-in-Some-clause-cause
returns-in-Some-clause-cause g c =
    subst (λ o. IfErr c.write_one.result (WrittenEntryCause o (g.D.Disk.state c.args.store.now) (g.D.Disk.state c.write_one.new.store) (g.O.Disk.state c.args.out.now) (g.O.Disk.state c.write_one.new.out))) c.in-Some.ensures c.write_one.ensures.cause
