use Rattle.ext_explain.proofs.LineLemmas.{lines_outside}
use Rattle.ext_explain.proofs.explaining.image_origins.Goals as goal

pub returns-else-inside : goal.returns-else-inside
returns-else-inside c = lines_outside c.args.base.now c.args.inside c.args.items.now c.args.path.now c.new.result.items c.if-inside.false c.requires c.new.ensures.items
