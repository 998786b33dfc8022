use Rattle.std.proofs.Common.{[], ◌∷◌, ◌++◌, ◌∙◌, append_assoc}
use Rattle.ext_port.proofs.next_host.with_attachment.Goals as goal

pub returns : goal.returns
returns c =
    c.from_vec.ensures ∙ c.in_ok-append.ensures.items
    ∙ (λ i. (c.in_ok-push.ensures.items ∙ (λ j. c.in_ok-all.ensures j ++ c.args.attachment ∷ [])) i ++ c.in_ok-rest.ensures i)
    ∙ append_assoc _ (c.args.attachment ∷ []) _
