use Rattle.std.proofs.Common.{sym, subst}
use Rattle.std.proofs.lemmas.Result.{on_ok_weaker}
use Rattle.ext_text.specs.Path.{is_prefix}
use Rattle.ext_disk.specs.Calls.{MayCall, make_file}
use Rattle.ext_store_files.specs.Writing.{Works, is_at}
use Rattle.ext_homes.specs.Placed.{brought_told}
use Rattle.ext_homes.specs.Writing.{IsPut, WritesBrought}
use Rattle.ext_homes.proofs.WritingLemmas.{file_only, file_works, may_make_file, put_written}
use Rattle.ext_homes.proofs.writing.write_brought.Goals as goal

pub put_file-requires-clause-free : goal.put_file-requires-clause-free
put_file-requires-clause-free g c =
    subst (λ p. MayCall (make_file p) (g.D.Disk.state c.make_home_folder.new.disk)) (sym c.in_ok-path.ensures)
    (may_make_file c.args.generation c.args.number (g.D.Disk.state c.args.disk.now) (g.D.Disk.state c.make_home_folder.new.disk) c.in_ok-make_home_folder.ensures.opens)

pub returns-clause-works : goal.returns-clause-works
returns-clause-works g c =
    file_works c.args.generation c.args.number c.args.held.now.stamp.size (g.D.Disk.state c.args.disk.now) (g.D.Disk.state c.make_home_folder.new.disk) (g.D.Disk.state c.put_file.new.disk)
    c.in_ok-make_home_folder.ensures.works
    (subst (λ p. Works (is_prefix p) (is_at p) c.args.held.now.stamp.size (g.D.Disk.state c.make_home_folder.new.disk) (g.D.Disk.state c.put_file.new.disk)) c.in_ok-path.ensures c.put_file.ensures.works)

pub returns-clause-only : goal.returns-clause-only
returns-clause-only g c =
    file_only c.args.generation c.args.number c.args.held.now.stamp.size (g.D.Disk.state c.args.disk.now) (g.D.Disk.state c.make_home_folder.new.disk) (g.D.Disk.state c.put_file.new.disk)
    c.in_ok-make_home_folder.ensures.opens
    (subst (λ p. Works (is_prefix p) (is_at p) c.args.held.now.stamp.size (g.D.Disk.state c.make_home_folder.new.disk) (g.D.Disk.state c.put_file.new.disk)) c.in_ok-path.ensures c.put_file.ensures.works)

pub returns-clause-written : goal.returns-clause-written
returns-clause-written g c =
    let brought = brought_told (g.P.Depot.state c.args.depot.now) c.args.held.now.body in
    on_ok_weaker {P = IsPut brought c.args.held.now.stamp c.in_ok-path.path (g.D.Disk.state c.make_home_folder.new.disk) (g.D.Disk.state c.put_file.new.disk)}
    {Q = WritesBrought c.args.generation c.args.number brought c.args.held.now.stamp (g.D.Disk.state c.args.disk.now) (g.D.Disk.state c.put_file.new.disk)} c.put_file.result
    (λ put. put_written c.args.generation c.args.number brought c.args.held.now.stamp (g.D.Disk.state c.args.disk.now) (g.D.Disk.state c.make_home_folder.new.disk) (g.D.Disk.state c.put_file.new.disk)
    c.requires.number c.in_ok-make_home_folder.ensures.works c.in_ok-make_home_folder.ensures.opens
    (subst (λ p. Works (is_prefix p) (is_at p) c.args.held.now.stamp.size (g.D.Disk.state c.make_home_folder.new.disk) (g.D.Disk.state c.put_file.new.disk)) c.in_ok-path.ensures c.put_file.ensures.works)
    (subst (λ p. IsPut brought c.args.held.now.stamp p (g.D.Disk.state c.make_home_folder.new.disk) (g.D.Disk.state c.put_file.new.disk)) c.in_ok-path.ensures put)) c.put_file.ensures.put
