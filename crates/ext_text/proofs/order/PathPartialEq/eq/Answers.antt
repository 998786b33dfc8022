use Rattle.std.proofs.Common.{◌∙◌}
use Rattle.ext_text.proofs.CutLemmas.{same_texts}
use Rattle.ext_text.proofs.order.PathPartialEq.eq.Goals as goal

pub returns : goal.returns
returns c = c.eq.ensures ∙ same_texts c.text.result.now c.text-2.result.now c.args.self.now c.args.other.now c.text.ensures.parts c.text-2.ensures.parts
