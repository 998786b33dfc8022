use Rattle.std.proofs.Common.{Some, None, ap}
use Rattle.std.proofs.lemmas.Result.{IfOk-weaker}
use Rattle.ext_depot.specs.DepotView.{file_at}
use Rattle.ext_disk.specs.Memory.{places_of}
use Rattle.ext_host.specs.declared.host.Host.{Host}
use Rattle.ext_top.proofs.SampleLemmas.{sample_wants}
use Rattle.ext_top.proofs.sample.sample_answer.Goals as goal

pub returns-in-None : goal.returns-in-None
returns-in-None c =
    IfOk-weaker c.tree_sample-in-None.result _ _ (λ answer is. sample_wants c.args.images (file_at c.in_ok-depot.depot) None (places_of c.new-disk.result) (places_of c.carry_lines.new.disk) c.new-in-None.result answer
    c.in_ok-depot.ensures.sample c.new-disk.ensures.empty (rw c.in-None.is at c.in_ok-carry_lines.ensures) c.new-in-None.ensures is) c.tree_sample-in-None.ensures

pub returns : goal.returns
returns c =
    IfOk-weaker c.tree_sample-in-Some.result _ _ (λ answer is. sample_wants c.args.images (file_at c.in_ok-depot.depot) (Some c.in-Some.opened) (places_of c.new-disk.result) (places_of c.carry_lines.new.disk) c.host.result.now.root answer
    c.in_ok-depot.ensures.sample c.new-disk.ensures.empty (rw c.in-Some.is at c.in_ok-carry_lines.ensures) (ap (λ (h : Host). h.root) c.host.ensures.same) is) c.tree_sample-in-Some.ensures
