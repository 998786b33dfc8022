use Rattle.std.proofs.Common.{◌++◌, ◌∙◌, ap, subst}
use Rattle.ext_homes.specs.KeptFiles.{HaveSame, tree_kept}
use Rattle.ext_homes.specs.Sought.{is_sought}
use Rattle.ext_homes.proofs.kept_files.append_tree.Goals as goal

pub returns-clause-files : goal.returns-clause-files
returns-clause-files c =
    subst (λ l. HaveSame l c.thin.new.collected.files.items)
    (c.in_ok-append_pairs.ensures ∙ ap (λ es. c.args.collected.now.files.items ++ tree_kept (is_sought c.args.sought.now) es) c.pairs.ensures.same)
    c.thin.ensures
