use Rattle.std.specs.Option.{option_copied}
use Rattle.ext_homes.specs.Giving.{trees_before}
use Rattle.ext_homes.specs.KeptFiles.{trees_kept}
use Rattle.ext_homes.specs.Sought.{is_sought}
use Rattle.ext_homes.proofs.KeptFilesLemmas.{have_then, kept_by_trees}
use Rattle.ext_homes.proofs.kept_files.KeptFiles.of.Goals as goal

pub returns : goal.returns
returns c =
    let trees = trees_before (option_copied c.args.from) in
    let sought = is_sought c.args.sought.now in
    kept_by_trees sought trees c.sort_once.new.files.items c.in_ok-files.ensures.trees
    (have_then (trees_kept sought trees) c.in_ok-files.files.items c.sort_once.new.files.items c.in_ok-files.ensures.files c.sort_once.ensures.same)
