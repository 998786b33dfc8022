use Rattle.std.proofs.Common.{◌≡◌, sym, ◌∙◌, subst, arith}
use Rattle.ext_configs.specs.Components.{AreComponents}
use Rattle.ext_configs.specs.Listed.{ListsComponents, in_roots_before}
use Rattle.ext_configs.proofs.ListedLemmas.{components_listed}
use Rattle.ext_configs.proofs.component_names.components.Goals as goal

pub returns : goal.returns
returns g c =
    let reached : c.roots.index ≡ c.count_of_roots-index-end.result = omega (arith, c.roots-test.false) in
    subst (AreComponents c.args.base.now) (sym c.from_vec.ensures)
    (components_listed c.args.base.now c.roots.names.items c.in_order.result.items
    (subst (λ i. ListsComponents c.args.base.now (in_roots_before i) c.roots.names.items) (reached ∙ c.count_of_roots-index-end.ensures) c.roots.invariant)
    c.in_order.ensures.sorted c.in_order.ensures.whole c.in_order.ensures.alone)
