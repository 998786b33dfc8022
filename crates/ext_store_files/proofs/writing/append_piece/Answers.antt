use Rattle.ext_disk.specs.Calls.{append}
use Rattle.ext_store_files.proofs.WritingLemmas.{append_call_works, append_more, append_raises, on_done}
use Rattle.ext_store_files.proofs.writing.append_piece.Goals as goal

pub returns-clause-works : goal.returns-clause-works
returns-clause-works g c = append_call_works c.args.path.now c.args.piece.now _ _ _ c.requires.some c.append.ensures.does

pub returns-clause-more : goal.returns-clause-more
returns-clause-more g c =
    on_done (append c.args.path.now c.args.piece.now) _ _ _ c.append.result
    (λ does. append_more c.args.path.now c.args.piece.now (g.D.Disk.state c.args.disk.now).told (g.D.Disk.state c.append.new.self).told does.told) c.append.ensures.does

pub returns-clause-raises : goal.returns-clause-raises
returns-clause-raises g c =
    on_done (append c.args.path.now c.args.piece.now) _ _ _ c.append.result
    (λ does. append_raises c.args.path.now c.args.piece.now (g.D.Disk.state c.args.disk.now).told (g.D.Disk.state c.append.new.self).told c.requires.some does.told) c.append.ensures.does
