use Rattle.std.proofs.Common.{ℕ, Some, refl, subst}
use Rattle.ext_host.specs.declared.host.Host.{Host}
use Rattle.ext_mount.specs.Asking.{IsTreeAsked, LacksTree}
use Rattle.ext_mount.specs.Printing.{PrintsTree}
use Rattle.ext_mount.proofs.FittingLemmas.{asked_fits}
use Rattle.ext_mount.proofs.GenerationLemmas.{lacks_opened, refused_opened, tree_opened}
use Rattle.ext_mount.proofs.generation.print_generation.Goals as goal

pub print_tree-requires : goal.print_tree-requires
print_tree-requires g c =
    asked_fits c.args.opened.now c.args.asked.mark c.in-Ok.tree.now c.host.ensures.opened (subst (λ (h : Host). IsTreeAsked h c.args.asked.mark c.in-Ok.tree.now) c.host.ensures.same c.in-Ok.ensures.ok)

pub returns-in-Ok : goal.returns-in-Ok
returns-in-Ok g c =
    tree_opened c.args.opened.now c.args.asked c.in-Ok.tree.now (g.K.Sink.state c.args.sink.now) (g.K.Sink.state c.print_tree.new.sink) c.print_tree.result
    (subst (λ (h : Host). IsTreeAsked h c.args.asked.mark c.in-Ok.tree.now) c.host.ensures.same c.in-Ok.ensures.ok)
    (subst (λ (n : ℕ). PrintsTree c.in-Ok.tree.now n (g.K.Sink.state c.args.sink.now) (g.K.Sink.state c.print_tree.new.sink) c.print_tree.result) c.time.ensures c.print_tree.ensures)

pub returns-in-Err : goal.returns-in-Err
returns-in-Err g c =
    refused_opened (Some c.args.opened.now) c.args.asked c.in-Err.refusal (g.K.Sink.state c.args.sink.now) (g.K.Sink.state c.tell.new.sink) c.tell.result
    (lacks_opened c.args.opened.now c.args.asked.mark c.args.asked c.in-Err.refusal refl (subst (λ (h : Host). LacksTree h c.args.asked.mark c.in-Err.refusal) c.host.ensures.same c.in-Err.ensures.err)) c.tell.ensures
