use Rattle.std.proofs.Common.{◌≡◌, ◌++◌, ◌∙◌, subst}
use Rattle.std.specs.Result.{OnOk}
use Rattle.ext_origin.specs.declared.origin.Layer.TheVariants.{Base}
use Rattle.ext_explain.specs.Layers.{base_layer}
use Rattle.ext_explain.proofs.LineLemmas.{line_found, no_line}
use Rattle.ext_explain.proofs.SightLemmas.{base_finding}
use Rattle.ext_explain.proofs.explaining.push_base.Goals as goal

pub returns-in-None : goal.returns-in-None
returns-in-None c =
    let is = base_finding c.args.base.now c.root.result c.args.path.now c.in_ok-finding_in.field-0 c.pairs-entries.ensures.tree.tree c.root.ensures c.in_ok-finding_in.ensures in
    no_line c.args.path.now (base_layer c.args.base.now) c.args.origins.now.items (is ∙ c.in-None.is)

pub returns-in-Some : goal.returns-in-Some
returns-in-Some c =
    let is = base_finding c.args.base.now c.root.result c.args.path.now c.in_ok-finding_in.field-0 c.pairs-entries.ensures.tree.tree c.root.ensures c.in_ok-finding_in.ensures in
    subst (λ line. OnOk c.push_origin.result (c.push_origin.new.origins.items ≡ c.args.origins.now.items ++ line))
    (line_found c.args.path.now (base_layer c.args.base.now) Base c.in-Some.finding (λ i. Base) (is ∙ c.in-Some.is)) c.push_origin.ensures
