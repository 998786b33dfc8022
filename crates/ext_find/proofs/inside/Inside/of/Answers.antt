use Rattle.std.proofs.Common.{sym, subst}
use Rattle.std.specs.Prelude.{IsTrue}
use Rattle.std.specs.FinMap.{is_sorted}
use Rattle.ext_text.specs.Path.{path_cmp}
use Rattle.ext_find.specs.Inside.{seen}
use Rattle.ext_find.proofs.InsideLemmas.{part_sorted}
use Rattle.ext_find.proofs.inside.Inside.of.Goals as goal

pub new-requires : goal.new-requires
new-requires g c =
    subst (λ depth. IsTrue (is_sorted path_cmp (seen depth c.below.result.now))) (sym c.depth.ensures)
    (part_sorted c.args.directory.now c.args.tree.now c.below.result.now c.pairs-entries.ensures.tree.tree c.below.ensures.same)
