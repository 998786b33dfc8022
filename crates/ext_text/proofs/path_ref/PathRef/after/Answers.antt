use Rattle.std.proofs.Common.{sym, ◌∙◌}
use Rattle.ext_text.specs.PathText.{text_prefix}
use Rattle.ext_text.proofs.TextOrderLemmas.{texts_prefix}
use Rattle.ext_text.proofs.CutLemmas.{after_is}
use Rattle.ext_text.proofs.path_ref.PathRef.after.Goals as goal

pub returns-in-None : goal.returns-in-None
returns-in-None c =
    sym (texts_prefix c.args.other.now c.args.self.now c.text-prefix.ensures.names c.text-text.ensures.names)
    ∙ (λ i. text_prefix ((sym c.text-prefix.ensures.same) i) ((sym c.text-text.ensures.same) i))
    ∙ c.in-None.ensures

pub returns-in-Some : goal.returns-in-Some
returns-in-Some c =
    let found = c.in-Some.ensures in
    (after_is c.args.other.now c.args.self.now c.text-prefix.result.now c.text-text.result.now c.in-Some.rest.now c.text-prefix.ensures.names c.text-text.ensures.names c.text-prefix.ensures.same c.text-text.ensures.same found.0 found.1).0

pub invariant_of-result : goal.invariant_of-result
invariant_of-result c =
    let found = c.in-Some.ensures in
    (after_is c.args.other.now c.args.self.now c.text-prefix.result.now c.text-text.result.now c.in-Some.rest.now c.text-prefix.ensures.names c.text-text.ensures.names c.text-prefix.ensures.same c.text-text.ensures.same found.0 found.1).1
