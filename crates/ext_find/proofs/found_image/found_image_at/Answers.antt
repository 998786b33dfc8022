use Rattle.std.proofs.Common.{sym, ap, ◌∙◌, subst}
use Rattle.std.specs.Prelude.{◌↔◌, IsTrue}
use Rattle.ext_walk.specs.Leads.{LeadsTo, LeadsToDirectory}
use Rattle.ext_find.specs.Content.{is_full_at, is_mask_at}
use Rattle.ext_find.specs.Ending.{stem_of}
use Rattle.ext_find.specs.Usable.{ImageAt, IsRawAt, PickedAt, FoundImageAt}
use Rattle.ext_find.proofs.FoundImageLemmas.{directory_some, if_ok, picked_found_image, plain_found_image, raw_found_image, raw_v_found_image}
use Rattle.ext_find.proofs.found_image.found_image_at.Goals as goal

pub returns-in-Plain : goal.returns-in-Plain
returns-in-Plain g c =
    if_ok (ImageAt g.C.Measured.size c.args.search.now.base.now c.args.search.now.class c.args.search.now.arch c.args.search.now.hierarchies.now c.args.next.now.entry.now.0 (stem_of c.args.next.now.name.now))
    (FoundImageAt g.C.Measured.size c.args.search.now.base.now c.args.search.now.class c.args.search.now.arch c.args.search.now.hierarchies.now c.args.next.now.entry.now.0 c.args.next.now.name.now) c.plain_at.result
    (plain_found_image g.C.Measured.size c.args.search.now.base.now c.args.search.now.class c.args.search.now.arch c.args.search.now.hierarchies.now c.args.next.now.entry.now.0 c.args.next.now.name.now
    (ap (is_mask_at g.C.Measured.size) c.requires.stands.there ∙ sym c.is_mask.ensures ∙ c.if-is_mask.false) (sym c.in-Plain.ensures))
    (rw c.requires.stem at c.plain_at.ensures)

pub returns-in_ok-leads_to_full-in-DotRaw : goal.returns-in_ok-leads_to_full-in-DotRaw
returns-in_ok-leads_to_full-in-DotRaw g c =
    if_ok (IsRawAt c.args.next.now.entry.now.0 c.in_ok-leads_to_full-in-DotRaw.field-0)
    (FoundImageAt g.C.Measured.size c.args.search.now.base.now c.args.search.now.class c.args.search.now.arch c.args.search.now.hierarchies.now c.args.next.now.entry.now.0 c.args.next.now.name.now) c.raw_at.result
    (raw_found_image g.C.Measured.size c.args.search.now.base.now c.args.search.now.class c.args.search.now.arch c.args.search.now.hierarchies.now c.args.next.now.entry.now.0 c.args.next.now.name.now
    (ap (is_mask_at g.C.Measured.size) c.requires.stands.there ∙ sym c.is_mask.ensures ∙ c.if-is_mask.false) (sym c.in-DotRaw.ensures) c.in_ok-leads_to_full-in-DotRaw.field-0
    (subst (λ p. IsTrue c.in_ok-leads_to_full-in-DotRaw.field-0 ↔ LeadsTo (is_full_at g.C.Measured.size) c.args.search.now.base.now p) c.names.ensures.same c.in_ok-leads_to_full-in-DotRaw.ensures))
    c.raw_at.ensures

pub returns-in-DotV : goal.returns-in-DotV
returns-in-DotV g c =
    if_ok (PickedAt g.C.Measured.size c.args.search.now.base.now c.args.search.now.class c.args.search.now.arch c.args.search.now.hierarchies.now c.args.next.now.entry.now.0 (stem_of c.args.next.now.name.now))
    (FoundImageAt g.C.Measured.size c.args.search.now.base.now c.args.search.now.class c.args.search.now.arch c.args.search.now.hierarchies.now c.args.next.now.entry.now.0 c.args.next.now.name.now) c.picked.result
    (picked_found_image g.C.Measured.size c.args.search.now.base.now c.args.search.now.class c.args.search.now.arch c.args.search.now.hierarchies.now c.args.next.now.entry.now.0 c.args.next.now.name.now
    (ap (is_mask_at g.C.Measured.size) c.requires.stands.there ∙ sym c.is_mask.ensures ∙ c.if-is_mask.false) (sym c.in-DotV.ensures))
    (rw c.requires.stem at c.picked.ensures)

pub returns-in_ok-directory-in-DotRawV : goal.returns-in_ok-directory-in-DotRawV
returns-in_ok-directory-in-DotRawV g c =
    if_ok (IsRawAt c.args.next.now.entry.now.0 c.is_some.result)
    (FoundImageAt g.C.Measured.size c.args.search.now.base.now c.args.search.now.class c.args.search.now.arch c.args.search.now.hierarchies.now c.args.next.now.entry.now.0 c.args.next.now.name.now) c.raw_at-in-DotRawV.result
    (raw_v_found_image g.C.Measured.size c.args.search.now.base.now c.args.search.now.class c.args.search.now.arch c.args.search.now.hierarchies.now c.args.next.now.entry.now.0 c.args.next.now.name.now
    (ap (is_mask_at g.C.Measured.size) c.requires.stands.there ∙ sym c.is_mask.ensures ∙ c.if-is_mask.false) (sym c.in-DotRawV.ensures) c.is_some.result
    (subst (λ b. IsTrue b ↔ LeadsToDirectory c.args.search.now.base.now c.args.next.now.entry.now.0) (sym c.is_some.ensures)
    (directory_some c.args.search.now.base.now c.args.next.now.entry.now.0 c.in_ok-directory-in-DotRawV.directory (rw c.names-in-DotRawV.ensures.same at c.in_ok-directory-in-DotRawV.ensures))))
    c.raw_at-in-DotRawV.ensures
