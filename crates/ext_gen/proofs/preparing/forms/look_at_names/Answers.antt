use Rattle.ext_text.specs.Name.{IsName}
use Rattle.ext_gen.proofs.PreparingListLemmas.{each_more, each_whole}
use Rattle.ext_gen.proofs.preparing.forms.look_at_names.Goals as goal

pub names-preserved : goal.names-preserved
names-preserved c = each_more IsName c.args.names.now c.names.name-index c.name-item.result c.names-test.true c.name-item.is c.names.invariant c.bytes-bytes.ensures.name

pub returns : goal.returns
returns c = each_whole IsName c.args.names.now c.names.name-index c.names-test.false c.names.invariant
