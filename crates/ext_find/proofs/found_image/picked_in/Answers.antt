use Rattle.std.proofs.Common.{subst}
use Rattle.ext_find.specs.Pick.{Picks}
use Rattle.ext_find.specs.Usable.{ImageAt, IsBelow, PickedAt}
use Rattle.ext_find.proofs.FoundImageLemmas.{if_ok, none_picked, none_within, one_picked}
use Rattle.ext_find.proofs.found_image.picked_in.Goals as goal

pub returns-in-None : goal.returns-in-None
returns-in-None g c =
    none_picked g.C.Measured.size c.args.search.now.base.now c.args.search.now.class c.args.search.now.arch c.args.search.now.hierarchies.now c.args.path.now c.args.stem.now
    (subst (Picks c.args.search.now.base.now c.args.search.now.arch c.args.path.now c.args.stem.now) c.in-None.is (rw c.bytes.ensures.same at c.in_ok-name.ensures))

pub returns-in-None-2 : goal.returns-in-None-2
returns-in-None-2 g c =
    none_within g.C.Measured.size c.args.search.now.base.now c.args.search.now.class c.args.search.now.arch c.args.search.now.hierarchies.now c.args.path.now c.args.stem.now c.in-Some.name.now
    (subst (Picks c.args.search.now.base.now c.args.search.now.arch c.args.path.now c.args.stem.now) c.in-Some.is (rw c.bytes.ensures.same at c.in_ok-name.ensures))
    (subst (IsBelow c.args.path.now c.in-Some.name.now) c.in-None-2.is c.in_ok-below-in-Some.ensures)

pub returns-in-Some-2 : goal.returns-in-Some-2
returns-in-Some-2 g c =
    if_ok (ImageAt g.C.Measured.size c.args.search.now.base.now c.args.search.now.class c.args.search.now.arch c.args.search.now.hierarchies.now c.in-Some-2.place c.args.stem.now)
    (PickedAt g.C.Measured.size c.args.search.now.base.now c.args.search.now.class c.args.search.now.arch c.args.search.now.hierarchies.now c.args.path.now c.args.stem.now) c.image_at.result
    (one_picked g.C.Measured.size c.args.search.now.base.now c.args.search.now.class c.args.search.now.arch c.args.search.now.hierarchies.now c.args.path.now c.args.stem.now c.in-Some.name.now c.in-Some-2.place
    (subst (Picks c.args.search.now.base.now c.args.search.now.arch c.args.path.now c.args.stem.now) c.in-Some.is (rw c.bytes.ensures.same at c.in_ok-name.ensures))
    (subst (IsBelow c.args.path.now c.in-Some.name.now) c.in-Some-2.is c.in_ok-below-in-Some.ensures))
    c.image_at.ensures
