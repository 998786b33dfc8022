use Rattle.std.proofs.Common.{rules, tests, Ok}
use Rattle.std.proofs.lemmas.Iterator.{items_from_collect}
use Rattle.std.proofs.lemmas.Iterator.Consumers.{YieldsList-at, YieldsList-from_filter_map, YieldsList-from_rest}
use Rattle.ext_configs.specs.Kept.{file_with}
use Rattle.ext_configs.proofs.files.files_of.Goals as goal

pub returns-clause-files : goal.returns-clause-files
returns-clause-files g c =
    items_from_collect {E = Unit {0}} (Ok c.in_ok-collect.field-0) c.in_ok-collect.ensures.ran
    (YieldsList-from_filter_map _ (λ e. file_with e.0 e.1) (YieldsList-at c.filter_map.ensures.source (YieldsList-from_rest c.args.kept.entries c.into_iter.ensures.into_iter_gives.0)) c.filter_map.ensures.closure (λ x r q k. search (rules, tests)))
