use Rattle.std.proofs.Common.{ℕ, true, List, ap, ◌∙◌}
use Rattle.std.specs.List.{list_any}
use Rattle.ext_intents.proofs.UpdatingLemmas.{none_held}
use Rattle.ext_intents.proofs.updating.no_paths.Goals as goal

pub returns : goal.returns
returns c =
    none_held c.of.result
    (c.of.ensures.same (λ path. true) ∙ ap (λ (paths : List (List (List ℕ))). list_any (λ path. true) paths) c.new.ensures.items)
