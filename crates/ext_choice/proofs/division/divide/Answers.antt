use Rattle.std.proofs.Common.{arith, refl, ◌∙◌}
use Rattle.std.specs.Option.{option_copied}
use Rattle.std.proofs.lemmas.Option.{slice_get_read}
use Rattle.ext_choice.proofs.DivisionLemmas.{all_divided, dividing_next, refused_here}
use Rattle.ext_choice.proofs.division.divide.Goals as goal

pub returns-in-Err : goal.returns-in-Err
returns-in-Err c =
    let transfer = c.index-transfers-place.result in
    let there = slice_get_read c.args.transfers.now _ c.transfers.place transfer refl c.transfers-test.true c.index-transfers-place.is in
    refused_here c.args.transfers.now (option_copied c.args.coming) c.args.installed.now.items
    c.transfers.place c.transfers.rest.now c.transfers.removed.items c.transfers.staying.items c.transfers.invariant
    transfer there c.split_after.result.0.now c.in-Err.refused c.split_after.ensures.here c.in-Err.ensures

pub transfers-preserved : goal.transfers-preserved
transfers-preserved c =
    let transfer = c.index-transfers-place.result in
    let there = slice_get_read c.args.transfers.now _ c.transfers.place transfer refl c.transfers-test.true c.index-transfers-place.is in
    dividing_next c.args.transfers.now (option_copied c.args.coming) c.args.installed.now.items
    c.transfers.place c.transfers.rest.now c.transfers.removed.items c.transfers.staying.items c.transfers.invariant
    transfer there c.split_after.result.0.now c.split_after.result.1.now c.in-Ok.gone
    c.append_each.new.removed.items c.append_each.new.staying.items
    c.split_after.ensures.here c.split_after.ensures.later c.in-Ok.ensures
    c.in_ok-append_each-in-Ok.ensures.removed c.in_ok-append_each-in-Ok.ensures.staying

pub returns : goal.returns
returns c =
    all_divided c.args.transfers.now (option_copied c.args.coming) c.args.installed.now.items
    c.transfers.place c.transfers.rest.now c.transfers.removed.items c.transfers.staying.items c.transfers.invariant
    (omega (arith, c.transfers-test.false)) c.of.result c.from_vec.result
    c.of.ensures.sorted c.of.ensures.same (c.from_vec.ensures ∙ c.in_ok-append_paths.ensures)
