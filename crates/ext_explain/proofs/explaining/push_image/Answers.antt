use Rattle.std.proofs.Common.{◌++◌, ap, sym, ◌∙◌}
use Rattle.std.proofs.lemmas.Result.{on_ok_weaker}
use Rattle.ext_tree.specs.Part.{part}
use Rattle.ext_origin.specs.declared.origin.Layer.TheVariants.{Image}
use Rattle.ext_explain.specs.Layers.{NamedLayer}
use Rattle.ext_explain.proofs.LineLemmas.{layer_at, line_found, no_line}
use Rattle.ext_explain.proofs.explaining.push_image.Goals as goal

pub returns-in-None : goal.returns-in-None
returns-in-None c =
    let found = c.in_ok-finding_of_image.ensures in
    let named : NamedLayer = record { layer = Image c.args.item.now.name; entries = part found.0 c.args.base.now } in
    (named, layer_at c.args.base.now c.args.item.now found.0 found.1, no_line c.args.path.now named c.args.origins.now.items (sym found.2 ∙ c.in-None.is))

pub returns-in_ok-copy-in-Some : goal.returns-in_ok-copy-in-Some
returns-in_ok-copy-in-Some c =
    let found = c.in_ok-finding_of_image.ensures in
    let named : NamedLayer = record { layer = Image c.args.item.now.name; entries = part found.0 c.args.base.now } in
    let line = line_found c.args.path.now named (Image c.in_ok-copy-in-Some.field-0) c.in-Some.finding (ap Image (sym c.in_ok-copy-in-Some.ensures)) (sym found.2 ∙ c.in-Some.is) in
    on_ok_weaker c.push_origin.result (λ added. (named, layer_at c.args.base.now c.args.item.now found.0 found.1, added ∙ ap (λ line. c.args.origins.now.items ++ line) line)) c.push_origin.ensures
