use Rattle.std.proofs.Common.{◌≡◌, ◌++◌, ◌∙◌, subst}
use Rattle.ext_updated.specs.Items.{written}
use Rattle.ext_updated.specs.Steps.{IsLeastMet}
use Rattle.ext_updated.proofs.ClashLemmas.{clash_found, found_is}
use Rattle.ext_updated.proofs.clashing.clash.Goals as goal

pub returns : goal.returns
returns g c =
    let root = c.args.root.now in
    let items = c.args.items.now in
    let met = c.in_ok-least_met.field-0 in
    let all : c.in_ok-written.written.items ≡ written items = c.in_ok-written.ensures ∙ (λ i. c.as_slice.ensures i ++ c.as_slice-2.ensures i) in
    let is_met = subst (λ ps. IsLeastMet ps met) all c.in_ok-least_met.ensures in
    clash_found root items met c.append_some.new.found.items c.least.result is_met
    (found_is root items met is_met c.as_slice-3.result.now c.new-found.result.items c.append_meeting_items.new.found.items c.as_slice-4.result.now c.append_standing.new.found.items
    c.as_slice-5.result.now c.append_non_links.new.found.items c.append_some.new.found.items
    (c.as_slice-3.ensures.value ∙ all) c.new-found.ensures.items c.in_ok-append_meeting_items.ensures c.as_slice-4.ensures c.in_ok-append_standing.ensures
    c.as_slice-5.ensures c.in_ok-append_non_links.ensures c.in_ok-append_some.ensures)
    c.least.ensures
