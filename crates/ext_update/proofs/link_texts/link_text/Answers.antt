use Rattle.std.proofs.Common.{◌∙◌, sym, ap}
use Rattle.std.specs.Ordering.{is_eq}
use Rattle.ext_text.specs.Path.{path_cmp}
use Rattle.ext_update.specs.Drafts.{current_path}
use Rattle.ext_update.proofs.TextLemmas.{beside_text}
use Rattle.ext_update.proofs.link_texts.link_text.Goals as goal

pub returns-then-is_eq-clause-text : goal.returns-then-is_eq-clause-text
returns-then-is_eq-clause-text c =
    let link = c.args.link.now in
    beside_text link.target link.path (current_path link.target link.current) c.named-directory.result.0 c.named-directory.result.1.now
    c.from_bytes.result
    (sym (c.is_eq.ensures ∙ ap is_eq (c.cmp.ensures ∙ (λ i. path_cmp (c.parent.ensures i) (c.names.ensures.same i)))) ∙ c.if-is_eq.true)
    c.named-directory.ensures.path c.from_bytes.ensures
