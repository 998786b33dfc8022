use Rattle.std.proofs.Common.{Some, subst, sym, ap, ◌∙◌}
use Rattle.std.specs.Prelude.{IsTrue}
use Rattle.std.specs.FinMap.{is_sorted}
use Rattle.ext_text.specs.Path.{path_cmp}
use Rattle.ext_tree.specs.Tree.{is_directory_at, is_directory_or_root}
use Rattle.ext_walk.specs.Walk.{Ends}
use Rattle.ext_find.specs.Inside.{seen}
use Rattle.ext_find.specs.Usable.{ImageAt, found_image_of}
use Rattle.ext_find.proofs.FoundImageLemmas.{found_image_checked}
use Rattle.ext_find.proofs.InsideLemmas.{part_sorted}
use Rattle.ext_find.proofs.StandsLemmas.{own_directory}
use Rattle.ext_find.proofs.found_image.directory_image_at.Goals as goal

pub new-inside-requires : goal.new-inside-requires
new-inside-requires g c =
    subst (λ depth. IsTrue (is_sorted path_cmp (seen depth c.args.next.now.inside.now))) (sym c.depth.ensures)
    (part_sorted c.args.next.now.entry.now.0 c.args.search.now.base.now c.args.next.now.inside.now c.pairs-entries.ensures.tree.tree c.requires.stands.inside)

pub returns : goal.returns
returns g c =
    let own = own_directory c.args.search.now.base.now c.pairs-entries.ensures.tree.tree c.args.next.now.entry.now.0 (ap is_directory_at c.requires.stands.there ∙ c.requires.directory) in
    let check = c.in_ok-check.ensures c.args.next.now.entry.now.0 (subst (Ends c.args.search.now.base.now c.args.next.now.entry.now.0) (sym c.names.ensures.same) own.0) (ap (is_directory_or_root c.args.search.now.base.now) c.names.ensures.same ∙ own.1) in
    subst (λ f. ImageAt g.C.Measured.size c.args.search.now.base.now c.args.search.now.class c.args.search.now.arch c.args.search.now.hierarchies.now c.args.next.now.entry.now.0 c.args.stem.now (Some f))
    (ap (λ p. found_image_of p c.in_ok-check.check) (sym c.in_ok-place.ensures) ∙ sym c.found_image_of.ensures)
    (found_image_checked g.C.Measured.size c.args.search.now.base.now c.args.search.now.class c.args.search.now.arch c.args.search.now.hierarchies.now c.args.next.now.entry.now.0 c.args.stem.now c.in_ok-check.check c.names.ensures.path check)
