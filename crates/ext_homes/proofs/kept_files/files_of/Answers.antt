use Rattle.std.proofs.Common.{◌++◌, sym, subst}
use Rattle.std.specs.Option.{option_copied}
use Rattle.ext_homes.specs.Giving.{trees_before}
use Rattle.ext_homes.specs.KeptFiles.{HaveSame, past_trees, tree_kept, trees_kept}
use Rattle.ext_homes.specs.Sought.{is_sought}
use Rattle.ext_homes.proofs.KeptFilesLemmas.{have_host}
use Rattle.ext_homes.proofs.kept_files.files_of.Goals as goal

pub returns-in_ok-append_past-in-Some-clause-files :
    goal.returns-in_ok-append_past-in-Some-clause-files
returns-in_ok-append_past-in-Some-clause-files c =
    let sought = is_sought c.args.sought.now in
    let host = c.in-Some.host.now in
    let last = c.append_past.new.collected.files.items in
    let first = c.append_tree.new.collected.files.items in
    let second = c.append_tree-in-Some.new.collected.files.items in
    subst (λ o. HaveSame (trees_kept sought (trees_before (option_copied o))) last) (sym c.in-Some.is)
    (have_host c.new.result.items (tree_kept sought host.root) (tree_kept sought host.lower) (trees_kept sought (past_trees host.past)) first second last c.new.ensures.items
    c.in_ok-append_tree-in-Some.ensures.files c.in_ok-append_tree-in-Some-2.ensures.files
    (subst (λ l. HaveSame (second ++ trees_kept sought (past_trees l)) last) c.as_slice.ensures c.in_ok-append_past-in-Some.ensures.files))
