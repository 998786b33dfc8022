use Rattle.std.proofs.Common.{◌∙◌}
use Rattle.ext_text.specs.PathText.{text_prefix}
use Rattle.ext_text.proofs.TextOrderLemmas.{texts_prefix}
use Rattle.ext_text.proofs.path_ref.PathRef.starts_with.Goals as goal

pub returns : goal.returns
returns c =
    c.begins_with.ensures
    ∙ (λ i. text_prefix (c.text-prefix.ensures.same i) (c.text-text.ensures.same i))
    ∙ texts_prefix c.args.other.now c.args.self.now c.text-prefix.ensures.names c.text-text.ensures.names
