use Rattle.std.proofs.Common.{◌≡◌, ℕ, List, [], ◌∷◌, ◌++◌, ap, ◌∙◌}
use Rattle.ext_text.specs.PathText.{text_of_both}
use Rattle.ext_added.proofs.TextLemmas.{absolute_below}
use Rattle.ext_added.proofs.link_text.text_below.Goals as goal

pub returns : goal.returns
returns c =
    let upper = c.text.result.now in
    let lower = c.text-2.result.now in
    let is : c.from_vec.result ≡ 47 ∷ text_of_both upper lower =
    c.from_vec.ensures ∙ c.in_ok-append_both.ensures
    ∙ ap (λ (bytes : List ℕ). bytes ++ text_of_both upper lower) (c.in_ok-push.ensures.items ∙ ap (λ (bytes : List ℕ). bytes ++ 47 ∷ []) c.new-bytes.ensures.items)
    in
    absolute_below c.args.above.now c.args.below.now upper lower c.from_vec.result c.text.ensures.path c.text-2.ensures.path c.text.ensures.same c.text-2.ensures.same is
