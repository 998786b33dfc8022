use Rattle.ext_text.specs.Digest.{IsDigest}
use Rattle.ext_text.specs.Path.{IsPath}
use Rattle.ext_gen.proofs.PreparingListLemmas.{each_more, each_whole}
use Rattle.ext_gen.proofs.preparing.forms.look_at_items.Goals as goal

pub items-preserved : goal.items-preserved
items-preserved c = each_more (λ item. IsPath item.path × IsDigest item.digest.0) c.args.items.now c.items.item-index c.item-item.result c.items-test.true c.item-item.is c.items.invariant (c.look_at_item.ensures.path, c.look_at_item.ensures.digest)

pub returns : goal.returns
returns c = each_whole (λ item. IsPath item.path × IsDigest item.digest.0) c.args.items.now c.items.item-index c.items-test.false c.items.invariant
