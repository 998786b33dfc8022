use Rattle.std.proofs.Common.{sym, subst}
use Rattle.std.specs.List.{AllByRecursion}
use Rattle.ext_port.specs.Given.{IsAsked}
use Rattle.ext_intents.proofs.PortableLemmas.{extensions_asked}
use Rattle.ext_intents.proofs.attaching.attach_step.Goals as goal

pub attach_with-requires-clause-all_asked : goal.attach_with-requires-clause-all_asked
attach_with-requires-clause-all_asked g c = subst (AllByRecursion IsAsked) (sym c.in_ok-extensions.ensures) (extensions_asked c.args.words.now c.requires.formed)
