use Rattle.std.proofs.Common.{◌++◌, ap, sym, ◌∙◌}
use Rattle.ext_intents.proofs.KnownLemmas.{known_one}
use Rattle.ext_intents.proofs.version_items.items_of.Goals as goal

pub item_of-requires-clause-known : goal.item_of-requires-clause-known
item_of-requires-clause-known c =
    known_one c.args.updates.now c.args.versions c.loop-version.yielded c.next.new.self.rest.items c.in-Some.version c.requires.known
    (ap (λ vs. c.loop-version.yielded ++ vs) (sym c.in-Some.ensures.steps.0) ∙ c.loop-version.invariant.0)
