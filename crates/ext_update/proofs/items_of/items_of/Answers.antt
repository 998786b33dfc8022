use Rattle.std.proofs.Common.{map, ap, ◌∙◌}
use Rattle.std.specs.Prelude.{List}
use Rattle.std.specs.List.{filter}
use Rattle.ext_update.specs.Drafts.{arrives_at}
use Rattle.ext_update.specs.Stages.{is_within_limits}
use Rattle.ext_update.specs.declared.draft.Arrival.{Arrival}
use Rattle.ext_update.specs.declared.draft.CurrentLink.{CurrentLink}
use Rattle.ext_update.proofs.DraftLemmas.{items_with}
use Rattle.ext_update.proofs.items_of.items_of.Goals as goal

pub returns : goal.returns
returns c =
    let draft = c.args.draft.now in
    items_with draft c.args.division c.from_vec.result c.from_vec-2.result
    (c.from_vec.ensures ∙ c.in_ok-resources.ensures
    ∙ ap (λ (as_ : List Arrival). filter is_within_limits (map arrives_at as_)) c.as_slice.ensures.value)
    (c.from_vec-2.ensures ∙ c.in_ok-links.ensures
    ∙ ap (λ (ls : List CurrentLink). map (λ (link : CurrentLink). link.path) ls) c.as_slice-2.ensures.value)
