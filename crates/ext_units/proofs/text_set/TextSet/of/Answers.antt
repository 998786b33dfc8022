use Rattle.ext_units.proofs.SetLemmas.{set_more}
use Rattle.ext_units.proofs.text_set.TextSet.of.Goals as goal

pub texts-preserved : goal.texts-preserved
texts-preserved c =
    set_more c.args.texts.now c.texts.text-index c.text-item.result c.bytes.result c.texts.set.keys c.insert.new.self.keys c.texts-test.true c.text-item.is c.bytes.ensures c.in_ok-insert.ensures.updates.0 c.texts.invariant
