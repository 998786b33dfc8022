use Rattle.std.proofs.Common.{sym, ap, ◌∙◌, subst}
use Rattle.std.specs.List.{find}
use Rattle.ext_text.specs.declared.class.Class.TheVariants as classes
use Rattle.ext_host.specs.Planning.{content_size}
use Rattle.ext_find.specs.Found.{AreFound}
use Rattle.ext_units.specs.Image.{FindsImage, is_image_of}
use Rattle.ext_units.proofs.ImageLemmas.{finds, finds_none, image_leads}
use Rattle.ext_units.proofs.image.place_named.Goals as goal

pub returns-in-None-clause-place : goal.returns-in-None-clause-place
returns-in-None-clause-place c =
    finds_none c.args.base.now c.args.arch c.there_is_one_found_list.ensures c.args.name.now c.in_ok-found.found
    (subst (λ hierarchies. AreFound content_size c.args.base.now classes.Portable c.args.arch hierarchies c.in_ok-found.found) c.new.ensures c.in_ok-found.ensures)
    (ap (find (is_image_of c.args.name.now)) (sym c.as_slice.ensures) ∙ sym c.in-None.ensures)

pub returns-clause-place : goal.returns-clause-place
returns-clause-place c =
    subst (FindsImage c.args.base.now c.args.arch c.args.name.now) (sym c.in_ok-copy-in-Some.ensures)
    (finds c.args.base.now c.args.arch c.args.name.now c.in_ok-found.found c.in-Some.item.now
    (subst (λ hierarchies. AreFound content_size c.args.base.now classes.Portable c.args.arch hierarchies c.in_ok-found.found) c.new.ensures c.in_ok-found.ensures)
    (ap (find (is_image_of c.args.name.now)) (sym c.as_slice.ensures) ∙ sym c.in-Some.ensures))

pub returns-clause-leads : goal.returns-clause-leads
returns-clause-leads c = image_leads c.args.base.now c.args.arch c.args.name.now c.in_ok-copy-in-Some.field-0 (returns-clause-place c)
