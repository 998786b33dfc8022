use Rattle.std.proofs.Common.{sym, subst}
use Rattle.ext_text.specs.Path.{is_prefix}
use Rattle.ext_disk.specs.Calls.{MayCall, make_dir}
use Rattle.ext_store_files.specs.Writing.{Holds, IsMade, Works, is_at}
use Rattle.ext_homes.proofs.WritingLemmas.{folder_only, folder_opens, folder_works, may_make_folder, opens_itself}
use Rattle.ext_homes.proofs.writing.make_home_folder.Goals as goal

pub returns-then-number-ne0-clause-opens : goal.returns-then-number-ne0-clause-opens
returns-then-number-ne0-clause-opens g c =
    opens_itself c.args.generation c.args.number (g.D.Disk.state c.args.disk.now) c.requires.number c.if-number-ne0.true c.requires.homes

pub make_folder-requires : goal.make_folder-requires
make_folder-requires g c =
    subst (λ p. MayCall (make_dir p) (g.D.Disk.state c.args.disk.now)) (sym c.in_ok-folder.ensures)
    (may_make_folder c.args.generation c.args.number (g.D.Disk.state c.args.disk.now) c.requires.number c.if-number-ne0.false c.requires.homes)

pub returns-in-Ok-clause-works : goal.returns-in-Ok-clause-works
returns-in-Ok-clause-works g c =
    folder_works c.args.generation c.args.number (g.D.Disk.state c.args.disk.now) (g.D.Disk.state c.make_folder.new.disk)
    (subst (λ p. Works (is_prefix p) (is_at p) 0 (g.D.Disk.state c.args.disk.now) (g.D.Disk.state c.make_folder.new.disk)) c.in_ok-folder.ensures c.in-Ok.ensures.works)

pub returns-in-Ok-clause-only : goal.returns-in-Ok-clause-only
returns-in-Ok-clause-only g c =
    folder_only c.args.generation c.args.number (g.D.Disk.state c.args.disk.now) (g.D.Disk.state c.make_folder.new.disk) c.requires.homes
    (subst (λ p. Works (is_prefix p) (is_at p) 0 (g.D.Disk.state c.args.disk.now) (g.D.Disk.state c.make_folder.new.disk)) c.in_ok-folder.ensures c.in-Ok.ensures.works)

pub returns-in-Ok-clause-opens : goal.returns-in-Ok-clause-opens
returns-in-Ok-clause-opens g c =
    folder_opens c.args.generation c.args.number (g.D.Disk.state c.args.disk.now) (g.D.Disk.state c.make_folder.new.disk) c.requires.number c.if-number-ne0.false c.requires.homes
    (subst (λ p. Works (is_prefix p) (is_at p) 0 (g.D.Disk.state c.args.disk.now) (g.D.Disk.state c.make_folder.new.disk)) c.in_ok-folder.ensures c.in-Ok.ensures.works)
    (subst (λ p. Holds (IsMade p) (g.D.Disk.state c.make_folder.new.disk)) c.in_ok-folder.ensures c.in-Ok.ensures.made)

pub returns-clause-works : goal.returns-clause-works
returns-clause-works g c =
    folder_works c.args.generation c.args.number (g.D.Disk.state c.args.disk.now) (g.D.Disk.state c.make_folder.new.disk)
    (subst (λ p. Works (is_prefix p) (is_at p) 0 (g.D.Disk.state c.args.disk.now) (g.D.Disk.state c.make_folder.new.disk)) c.in_ok-folder.ensures c.in-Err.ensures.works)

pub returns-clause-only : goal.returns-clause-only
returns-clause-only g c =
    folder_only c.args.generation c.args.number (g.D.Disk.state c.args.disk.now) (g.D.Disk.state c.make_folder.new.disk) c.requires.homes
    (subst (λ p. Works (is_prefix p) (is_at p) 0 (g.D.Disk.state c.args.disk.now) (g.D.Disk.state c.make_folder.new.disk)) c.in_ok-folder.ensures c.in-Err.ensures.works)
