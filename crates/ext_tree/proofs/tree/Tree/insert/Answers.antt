use Rattle.std.proofs.Common.{Err, sym, ap, ◌∙◌, subst}
use Rattle.std.specs.FinMap.{put}
use Rattle.ext_text.specs.Path.{path_cmp}
use Rattle.ext_tree.specs.Tree.{IsTreeWithin}
use Rattle.ext_tree.specs.Refusals.{Refuses, insert_refusal}
use Rattle.ext_tree.proofs.TreeLemmas.{put_at, refused_so, tree_put_at}
use Rattle.ext_tree.proofs.tree.Tree.insert.Goals as goal

pub invariant_of-self-in-None : goal.invariant_of-self-in-None
invariant_of-self-in-None g c =
    subst IsTreeWithin (sym c.in_ok-insert_at-in-None.ensures.ok) (tree_put_at c.args.entry c.self.invariant c.names.ensures.path c.as_slice-entries.ensures.value c.names.ensures.same c.insertion_point_of-index.ensures.index c.in-None.ensures)

pub returns-in_ok-insert_at-in-None-clause-ok : goal.returns-in_ok-insert_at-in-None-clause-ok
returns-in_ok-insert_at-in-None-clause-ok g c =
    c.in_ok-insert_at-in-None.ensures.ok ∙ put_at c.args.entry c.as_slice-entries.ensures.value c.names.ensures.same c.insertion_point_of-index.ensures.index c.in-None.ensures ∙ ap (put path_cmp c.args.path c.args.entry) c.self.view_is

pub returns-in-Some-clause-refused : goal.returns-in-Some-clause-refused
returns-in-Some-clause-refused g c =
    subst (λ es. Refuses {T = Unit {0}} (Err c.in-Some.refusal) (insert_refusal es c.args.path)) (c.as_slice-entries.ensures.value ∙ c.self.view_is)
    (refused_so (Unit {0}) c.as_slice-entries.result.now c.args.path c.in-Some.refusal c.in-Some.ensures)
