use Rattle.std.proofs.Common.{sym, ◌∙◌}
use Rattle.ext_portext.proofs.UnitTreeLemmas.{no_extensions, some_extensions}
use Rattle.ext_portext.proofs.unit_tree.unit_tree.Goals as goal

pub returns-in_ok-copied : goal.returns-in_ok-copied
returns-in_ok-copied c =
    no_extensions c.args.hierarchies.now c.args.image.now c.args.extensions.now c.in_ok-copied.field-0 (sym c.is_empty.ensures ∙ c.if-is_empty.true) c.in_ok-copied.ensures.same c.copied.ensures.count

pub extended_tree-requires : goal.extended_tree-requires
extended_tree-requires c = some_extensions c.args.extensions.now (sym c.is_empty.ensures ∙ c.if-is_empty.false)
