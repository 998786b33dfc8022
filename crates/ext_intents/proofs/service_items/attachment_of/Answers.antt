use Rattle.std.proofs.Common.{sym, ap, ◌∙◌}
use Rattle.ext_intents.specs.ServiceItems.{if_named}
use Rattle.ext_intents.proofs.AttachmentLemmas.{find_from, item_at}
use Rattle.ext_intents.proofs.service_items.attachment_of.Goals as goal

pub returns : goal.returns
returns c =
    c.if_named.ensures
    ∙ ap (if_named c.args.name.now) (item_at c.args.attached.now c.place_from-place.result c.get.result c.get.ensures.lookup ∙ c.place_from-place.ensures)
    ∙ sym (find_from c.args.name.now c.args.attached.now c.requires)
