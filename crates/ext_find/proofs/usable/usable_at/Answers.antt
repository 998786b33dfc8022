use Rattle.std.proofs.Common.{is_some, sym, ap, ◌∙◌, subst}
use Rattle.ext_tree.specs.Tree.{lookup}
use Rattle.ext_find.specs.Usable.{IsStem, FoundImageAt, UsableAt}
use Rattle.ext_find.proofs.FoundImageLemmas.{item_named}
use Rattle.ext_find.proofs.usable.usable_at.Goals as goal

pub returns-in_ok-found_image-in-Some : goal.returns-in_ok-found_image-in-Some
returns-in_ok-found_image-in-Some g c = λ directory at.
    subst (UsableAt g.C.Measured.size c.args.search.now.base.now c.args.search.now.class c.args.search.now.arch c.args.search.now.hierarchies.now directory c.args.next.now.name.now) (sym c.item_of.ensures)
    (item_named g.C.Measured.size c.args.search.now.base.now c.args.search.now.class c.args.search.now.arch c.args.search.now.hierarchies.now directory c.args.next.now.name.now c.in-Some.stem
    (ap (λ p. is_some (lookup c.args.search.now.base.now p)) (sym at) ∙ ap is_some c.requires.there)
    (sym c.is_hidden.ensures ∙ c.if-is_hidden.false)
    (subst (IsStem c.args.next.now.name.now) c.in-Some.is c.in_ok-stem_name.ensures)
    c.in_ok-found_image-in-Some.found_image
    (subst (λ p. FoundImageAt g.C.Measured.size c.args.search.now.base.now c.args.search.now.class c.args.search.now.arch c.args.search.now.hierarchies.now p c.args.next.now.name.now c.in_ok-found_image-in-Some.found_image) at c.in_ok-found_image-in-Some.ensures))
