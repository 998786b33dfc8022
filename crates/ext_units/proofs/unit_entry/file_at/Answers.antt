use Rattle.std.proofs.Common.{◌≡◌, true, Some, sym, ap, ◌∙◌, subst}
use Rattle.ext_tree.specs.Tree.{lookup}
use Rattle.ext_find.specs.Content.{is_file_at}
use Rattle.ext_find.proofs.ForCallers.{own_file}
use Rattle.ext_units.specs.Kept.{FileAt}
use Rattle.ext_units.proofs.unit_entry.file_at.Goals as goal

pub returns-then-is_file : goal.returns-then-is_file
returns-then-is_file g c =
    let path = c.args.next.now.entry.now.0 in
    let file : is_file_at (lookup c.args.tree.now path) ≡ true = ap is_file_at c.requires.there ∙ sym c.is_file.ensures ∙ c.if-is_file.true in
    subst (λ found. FileAt c.args.tree.now path (Some found)) (sym c.in_ok-copy.ensures) (own_file c.args.tree.now c.pairs-entries.ensures.tree.tree path file, file)
