use Rattle.std.proofs.Common.{◌∙◌}
use Rattle.ext_text.specs.PathText.{text_cmp}
use Rattle.ext_text.proofs.TextOrderLemmas.{texts_cmp}
use Rattle.ext_text.proofs.order.PathOrd.cmp.Goals as goal

pub returns : goal.returns
returns c =
    c.cmp_text.ensures
    ∙ (λ i. text_cmp (c.text.ensures.same i) (c.text-2.ensures.same i))
    ∙ texts_cmp c.args.self.now c.args.other.now c.text.ensures.path.each c.text-2.ensures.path.each
