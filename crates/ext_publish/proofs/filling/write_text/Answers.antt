use Rattle.std.proofs.Common.{arith}
use Rattle.ext_publish.specs.Stopping.{OutCause}
use Rattle.ext_publish.proofs.FoldersLemmas.{out_fault_since}
use Rattle.ext_publish.proofs.FilesLemmas.{err_map}
use Rattle.ext_publish.proofs.CopyingLemmas.{works_at_itself}
use Rattle.ext_publish.proofs.filling.write_text.Goals as goal

pub returns-in-None-clause-works : goal.returns-in-None-clause-works
returns-in-None-clause-works g c = works_at_itself c.args.path.now (g.O.Disk.state c.args.out.now)

pub returns-in-Some-clause-cause : goal.returns-in-Some-clause-cause
returns-in-Some-clause-cause g c =
    let old = g.O.Disk.state c.args.out.now in
    let new = g.O.Disk.state c.write_at.new.out in
    err_map _ c.write_at.result _ (OutCause old new) (λ stop cause. out_fault_since old old new stop (omega arith) cause) c.write_at.ensures.cause
