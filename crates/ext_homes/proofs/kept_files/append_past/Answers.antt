use Rattle.std.proofs.Common.{◌++◌, sym, subst}
use Rattle.std.specs.List.{AllByRecursion}
use Rattle.std.proofs.lemmas.List.{append-nil, take_all}
use Rattle.ext_tree.specs.Tree.{IsTree}
use Rattle.ext_homes.specs.KeptFiles.{HaveSame, past_trees, tree_kept, trees_kept}
use Rattle.ext_homes.specs.Sought.{is_sought}
use Rattle.std.proofs.Common.{take}
use Rattle.ext_homes.proofs.KeptFilesLemmas.{have_itself, have_two, past_are, past_more}
use Rattle.ext_homes.proofs.kept_files.append_past.Goals as goal

pub loop-tree-init : goal.loop-tree-init
loop-tree-init c =
    let files = c.args.collected.now.files.items in
    (subst (λ l. HaveSame l files) (sym (append-nil files)) (have_itself files), tt)

pub loop-tree-preserved : goal.loop-tree-preserved
loop-tree-preserved c =
    let sought = is_sought c.args.sought.now in
    let start = c.args.collected.now.files.items in
    let i = c.loop-tree.tree-index in
    let tree = c.tree-item.result in (
      subst (λ l. HaveSame (start ++ l) c.append_tree-in-loop-tree.new.collected.files.items) (sym (past_more sought c.args.past.now i tree c.loop-tree-test.true c.tree-item.is))
          (have_two start (trees_kept sought (past_trees (take i c.args.past.now))) (tree_kept sought tree.root) (tree_kept sought tree.lower) c.loop-tree.collected.files.items c.append_tree.new.collected.files.items
          c.append_tree-in-loop-tree.new.collected.files.items c.loop-tree.invariant.0 c.in_ok-append_tree.ensures.files c.in_ok-append_tree-2.ensures.files),
      past_are c.args.past.now i tree c.loop-tree-test.true c.tree-item.is c.loop-tree.invariant.1 c.in_ok-append_tree.ensures.tree c.in_ok-append_tree-2.ensures.tree,
    )

pub returns-clause-files : goal.returns-clause-files
returns-clause-files c =
    subst (λ l. HaveSame (c.args.collected.now.files.items ++ trees_kept (is_sought c.args.sought.now) (past_trees l)) c.loop-tree.collected.files.items)
    (take_all c.loop-tree.tree-index c.args.past.now c.loop-tree-test.false) c.loop-tree.invariant.0

pub returns-clause-trees : goal.returns-clause-trees
returns-clause-trees c =
    subst (λ l. AllByRecursion (λ es. IsTree es) (past_trees l)) (take_all c.loop-tree.tree-index c.args.past.now c.loop-tree-test.false) c.loop-tree.invariant.1
