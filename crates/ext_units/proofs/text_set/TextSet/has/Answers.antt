use Rattle.std.proofs.Common.{ap, ◌∙◌}
use Rattle.ext_units.specs.TextSet.{is_one_of}
use Rattle.ext_units.proofs.SetLemmas.{any_by_order}
use Rattle.ext_units.proofs.text_set.TextSet.has.Goals as goal

pub returns : goal.returns
returns c = c.contains.ensures ∙ any_by_order c.args.text.now c.self.inside.texts.keys ∙ ap (λ texts. is_one_of texts c.args.text.now) c.self.view_is
