use Rattle.std.proofs.Common.{sym, ◌∙◌}
use Rattle.std.proofs.lemmas.Bool.{OnTrue_from}
use Rattle.ext_tree.proofs.ForCallers.{past_last}
use Rattle.ext_index_reader.specs.Homes.{home_cmp}
use Rattle.ext_index_reader.proofs.HomeListLemmas.{home_total}
use Rattle.ext_index_reader.proofs.home_lists.is_past_all.Goals as goal

pub returns-in-Some : goal.returns-in-Some
returns-in-Some c =
    OnTrue_from _ _ (λ past. past_last home_cmp home_total c.args.home c.args.homes.now c.in-Some.last.now c.requires (sym c.in-Some.ensures.value) (sym c.is_past.ensures ∙ past))
