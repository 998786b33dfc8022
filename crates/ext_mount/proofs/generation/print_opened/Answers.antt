use Rattle.std.proofs.Common.{None, Option, refl, sym, subst}
use Rattle.ext_gen.specs.Opened.{Generation}
use Rattle.ext_mount.specs.Printing.{PrintsOpened}
use Rattle.ext_mount.specs.declared.refusal.ImageRefusal.TheVariants.{NoStore}
use Rattle.ext_mount.proofs.GenerationLemmas.{refused_opened}
use Rattle.ext_mount.proofs.generation.print_opened.Goals as goal

pub returns-in-None : goal.returns-in-None
returns-in-None g c =
    subst (λ (o : Option Generation). PrintsOpened o c.args.asked (g.K.Sink.state c.args.sink.now) (g.K.Sink.state c.tell.new.sink) c.tell.result) (sym c.in-None.is)
    (refused_opened None c.args.asked NoStore (g.K.Sink.state c.args.sink.now) (g.K.Sink.state c.tell.new.sink) c.tell.result refl c.tell.ensures)

pub returns-in-Some : goal.returns-in-Some
returns-in-Some g c =
    subst (λ (o : Option Generation). PrintsOpened o c.args.asked (g.K.Sink.state c.args.sink.now) (g.K.Sink.state c.print_generation.new.sink) c.print_generation.result) (sym c.in-Some.is) c.print_generation.ensures
