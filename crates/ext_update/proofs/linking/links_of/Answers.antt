use Rattle.std.proofs.Common.{◌++◌, refl, sym, ap, ◌∙◌}
use Rattle.std.specs.Prelude.{List, Option}
use Rattle.std.specs.Option.{option_copied}
use Rattle.std.proofs.lemmas.Option.{slice_get_read}
use Rattle.ext_update.specs.Drafts.{first_links, link_if}
use Rattle.ext_update.specs.declared.draft.Current.{Current}
use Rattle.ext_update.specs.declared.draft.CurrentLink.{CurrentLink}
use Rattle.ext_update.proofs.DraftLemmas.{next_links}
use Rattle.ext_update.proofs.linking.links_of.Goals as goal

pub transfers-preserved : goal.transfers-preserved
transfers-preserved c =
    let transfer = c.index-transfers-place.result in
    let place = c.transfers.place-counter in
    let there = slice_get_read c.args.transfers.now _ place transfer refl c.transfers-test.true c.index-transfers-place.is in
    c.in_ok-append_link.ensures
    ∙ ap (λ (ls : List CurrentLink). ls ++ link_if transfer (option_copied c.get.result)) c.transfers.invariant
    ∙ ap (λ (o : Option Current). first_links c.args.transfers.now c.args.items.now c.args.resources.now c.args.version.now place ++ link_if transfer o)
    (c.get.ensures.value ∙ c.in_ok-currents.ensures place)
    ∙ sym (next_links c.args.transfers.now c.args.items.now c.args.resources.now c.args.version.now place transfer there)
