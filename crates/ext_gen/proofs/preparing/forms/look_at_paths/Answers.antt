use Rattle.ext_text.specs.Path.{IsPath}
use Rattle.ext_gen.proofs.PreparingListLemmas.{each_more, each_whole}
use Rattle.ext_gen.proofs.preparing.forms.look_at_paths.Goals as goal

pub paths-preserved : goal.paths-preserved
paths-preserved c = each_more IsPath c.args.paths.now c.paths.path-index c.path-item.result c.paths-test.true c.path-item.is c.paths.invariant c.names-names.ensures.path

pub returns : goal.returns
returns c = each_whole IsPath c.args.paths.now c.paths.path-index c.paths-test.false c.paths.invariant
