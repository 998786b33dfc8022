use Rattle.std.proofs.Common.{Err, refl}
use Rattle.std.proofs.lemmas.Result.{err_from_is_err_and}
use Rattle.ext_disk.proofs.ForCallers.{follows_itself}
use Rattle.ext_store_files.proofs.ForCallers.{kept_itself}
use Rattle.ext_cmd.specs.Replies.{answer_text}
use Rattle.ext_top.specs.Machine.{Replaces}
use Rattle.ext_top.proofs.ReadingLemmas.{unread_applies}
use Rattle.ext_top.proofs.WorkingLemmas.{works_nothing}
use Rattle.ext_top.proofs.CurrentLemmas.{rested_current}
use Rattle.ext_store_files.specs.declared.fault.StoreFault.TheVariants.{OutOfMemory}
use Rattle.ext_top.specs.declared.apply_err.ApplyErr.TheVariants.{Fault}
use Rattle.ext_top.proofs.replacing.replace.Goals as goal

pub returns-in_err-reply : goal.returns-in_err-reply
returns-in_err-reply g c =
    let p = err_from_is_err_and c.from_residual.result c.from_residual.ensures.1 in
    let disk = g.D.Disk.state c.args.disk.now in
    let depot = g.P.Depot.state c.args.depot.now in
    rw (p.1, p.2) (record {
      follows = follows_itself disk;
      kept = kept_itself depot;
      applies = unread_applies (λ s. Replaces s depot.contents c.args.next (answer_text c.args.answer)) c.args.opened disk disk _ refl (g.met.D.Disk.holds_a_tree c.args.disk.now) tt;
      shown = tt;
      works = works_nothing _ c.args.opened disk.told;
      met = tt;
      points = tt;
      current = rested_current (Err (Fault OutOfMemory)) disk.told disk.told refl;
      replies = tt;
      unfinished = tt;
      damaged = tt;
      cause = tt;
    })

pub returns : goal.returns
returns g c = c.switch.ensures c.args.answer c.in_ok-reply.ensures
