use Rattle.std.proofs.Common.{◌∷◌, [], ◌++◌, subst, ◌∙◌, IsTrue}
use Rattle.ext_host.specs.Held.{HeldFile}
use Rattle.ext_tree.specs.Tree.{Entries, IsTree}
use Rattle.ext_index_reader.proofs.rows.Rows.may_follow.Goals as goal

pub returns : goal.returns
returns c = λ e.
    subst (λ (es : Entries HeldFile). (IsTrue c.may_follow.result → IsTree (es ++ (c.args.path.now, e) ∷ [])) × (IsTree (es ++ (c.args.path.now, e) ∷ []) → IsTrue c.may_follow.result))
    (c.as_slice.ensures.value ∙ c.self.view_is) (c.may_follow.ensures e)
