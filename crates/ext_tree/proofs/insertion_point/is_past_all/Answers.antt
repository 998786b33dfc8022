use Rattle.std.proofs.Common.{sym, ◌∙◌}
use Rattle.std.proofs.lemmas.Bool.{OnTrue_from}
use Rattle.ext_text.specs.Order.{paths_total}
use Rattle.ext_text.specs.Path.{path_cmp}
use Rattle.ext_tree.proofs.InsertionPointLemmas.{past_last}
use Rattle.ext_tree.proofs.insertion_point.is_past_all.Goals as goal

pub returns-in-Some : goal.returns-in-Some
returns-in-Some g c =
    OnTrue_from _ _ (λ past. past_last path_cmp paths_total c.args.names.now c.args.entries.now c.in-Some.entry.now c.requires (sym c.in-Some.ensures.value) (sym c.is_past.ensures ∙ past))
