use Rattle.std.proofs.Common.{◌++◌, ◌∷◌, [], ◌∙◌, List, ℕ, ap, sym}
use Rattle.ext_text.specs.Path.{path_cmp}
use Rattle.ext_tree.proofs.PartLemmas.{cmp_prefix}
use Rattle.ext_tree.proofs.SlicesLemmas.{cmp_apart}
use Rattle.ext_tree.proofs.slices.cmp_child.Goals as goal

pub returns-in-None : goal.returns-in-None
returns-in-None c = c.cmp.ensures ∙ sym (cmp_apart c.args.directory.now c.args.names.now (c.args.name.now ∷ []) c.in-None.ensures)

pub returns-in-Some : goal.returns-in-Some
returns-in-Some c =
    c.cmp_name.ensures
    ∙ sym (ap (λ (p : List (List ℕ)). path_cmp p (c.args.directory.now ++ c.args.name.now ∷ [])) c.in-Some.ensures ∙ cmp_prefix c.args.directory.now c.in-Some.rest (c.args.name.now ∷ []))
