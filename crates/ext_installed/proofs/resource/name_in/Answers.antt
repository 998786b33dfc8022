use Rattle.std.proofs.Common.{[], ◌∷◌, ◌++◌, List, ℕ, sym, ap, ◌∙◌}
use Rattle.std.specs.Cmp.Lexicographic.{lists_ties, texts_ties}
use Rattle.std.proofs.lemmas.Bool.{false≢true}
use Rattle.ext_lines.specs.ByteOrder.{bytes_cmp}
use Rattle.ext_text.specs.Path.{parent}
use Rattle.ext_text.proofs.ForCallers.{same_path, tied_path}
use Rattle.ext_tree.proofs.ForCallers.{parent_child}
use Rattle.ext_installed.proofs.resource.name_in.Goals as goal

pub returns-then-eq : goal.returns-then-eq
returns-then-eq c =
    let above = c.in_ok-above.above in
    let directory = c.names-2.result in
    let same = same_path above directory (sym (lists_ties bytes_cmp texts_ties above directory) ∙ sym c.eq.ensures ∙ c.if-eq.true) ∙ c.names-2.ensures.same in
    sym c.names.ensures.same ∙ c.in_ok-above.ensures.0 ∙ ap (λ (names : List (List ℕ)). names ++ c.in_ok-above.name.now ∷ []) same

pub returns-else-eq : goal.returns-else-eq
returns-else-eq c = λ name is.
    let above = c.in_ok-above.above in
    let directory = c.names-2.result in
    let same = sym (parent_child above c.in_ok-above.name.now) ∙ ap parent (sym c.in_ok-above.ensures.0 ∙ c.names.ensures.same ∙ is) ∙ parent_child c.args.directory.now name ∙ sym c.names-2.ensures.same in
    false≢true (sym c.if-eq.false ∙ c.eq.ensures ∙ lists_ties bytes_cmp texts_ties above directory ∙ tied_path above directory same)
