use Rattle.std.proofs.Common.{sym, ap, ◌∙◌}
use Rattle.std.specs.List.{find}
use Rattle.ext_portext.specs.Extension.{is_extension_of}
use Rattle.ext_portext.proofs.ExtensionLemmas.{finds_extension, finds_no_extension, looked_item}
use Rattle.ext_portext.proofs.extension.extension_named.Goals as goal

pub place_of_item-requires : goal.place_of_item-requires
place_of_item-requires c =
    looked_item c.args.name.now c.in_ok-found.found c.in-Some.item.now (ap (find (is_extension_of c.args.name.now)) (sym c.as_slice.ensures) ∙ sym c.in-Some.ensures)

pub returns-in-None : goal.returns-in-None
returns-in-None c =
    finds_no_extension c.args.host.now c.args.base.now c.there_is_one_found_list.ensures c.args.name.now c.in_ok-found.found c.in_ok-found.ensures
    (ap (find (is_extension_of c.args.name.now)) (sym c.as_slice.ensures) ∙ sym c.in-None.ensures)

pub returns : goal.returns
returns c =
    finds_extension c.args.host.now c.args.base.now c.args.name.now c.in_ok-found.found c.in-Some.item.now c.in_ok-place_of_item-in-Some.field-0.place c.in_ok-place_of_item-in-Some.field-0.broken c.in_ok-found.ensures
    (ap (find (is_extension_of c.args.name.now)) (sym c.as_slice.ensures) ∙ sym c.in-Some.ensures) c.in_ok-place_of_item-in-Some.ensures.place c.in_ok-place_of_item-in-Some.ensures.kind
