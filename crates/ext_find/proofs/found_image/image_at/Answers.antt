use Rattle.std.proofs.Common.{Some, subst, sym}
use Rattle.ext_find.specs.Usable.{CheckAt, ImageAt}
use Rattle.ext_find.proofs.FoundImageLemmas.{found_image_checked}
use Rattle.ext_find.proofs.found_image.image_at.Goals as goal

pub returns-in-Some : goal.returns-in-Some
returns-in-Some g c =
    subst (λ f. ImageAt g.C.Measured.size c.args.search.now.base.now c.args.search.now.class c.args.search.now.arch c.args.search.now.hierarchies.now c.args.place c.args.stem.now (Some f)) (sym c.found_image_of.ensures)
    (found_image_checked g.C.Measured.size c.args.search.now.base.now c.args.search.now.class c.args.search.now.arch c.args.search.now.hierarchies.now c.args.place c.args.stem.now c.in-Some.check c.names.ensures.path
    (subst (CheckAt g.C.Measured.size c.args.search.now.base.now c.args.search.now.class c.args.search.now.arch c.args.search.now.hierarchies.now c.args.place c.args.stem.now) c.in-Some.is (rw c.names.ensures.same at c.in_ok-check_at.ensures)))
