use Rattle.std.proofs.Common.{◌∙◌, ◌++◌, None, Some, ap, cond}
use Rattle.std.specs.FinMap.{is_sorted}
use Rattle.std.specs.Ordering.{eq_by_cmp}
use Rattle.ext_text.specs.Path.{path_cmp}
use Rattle.ext_text.specs.SortedPaths.{is_among}
use Rattle.ext_tree.specs.Graft.{made}
use Rattle.ext_tree.specs.Tree.{lookup}
use Rattle.ext_updated.specs.Putting.{lacking_once, made_at}
use Rattle.ext_updated.proofs.AboveLemmas.{among_lacking, among_once, lookup_made, sorted_made}
use Rattle.ext_updated.proofs.paths_above.missing_above.Goals as goal

pub returns-clause-found : goal.returns-clause-found
returns-clause-found g c = λ q.
    ap (λ es. lookup es q) (c.in_ok-pairs.ensures ∙ ap made_at c.as_slice.ensures.same) ∙ lookup_made _ c.of-sorted.result q
    ∙ ap (λ b. cond b (Some made) None) (c.of-sorted.ensures.same (λ p. eq_by_cmp path_cmp q p) ∙ ap (λ ps. is_among ps q) (c.in_ok-append_above.ensures ∙ ap (λ ps. ps ++ lacking_once c.args.tree.now c.args.pieces.now) c.new-paths.ensures.items)
    ∙ among_once c.args.tree.now c.args.pieces.now q ∙ among_lacking c.args.tree.now c.args.pieces.now q)

pub returns-clause-order : goal.returns-clause-order
returns-clause-order g c =
    ap (is_sorted path_cmp) (c.in_ok-pairs.ensures ∙ ap made_at c.as_slice.ensures.same) ∙ sorted_made _ c.of-sorted.result c.of-sorted.ensures.sorted
