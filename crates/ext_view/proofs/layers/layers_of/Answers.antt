use Rattle.std.proofs.Common.{map, sym, subst}
use Rattle.ext_layer.specs.Joining.{SayTheSame}
use Rattle.ext_view.specs.Parts.{part_below}
use Rattle.ext_view.proofs.PartsLemmas.{layers_said}
use Rattle.ext_view.proofs.layers.layers_of.Goals as goal

pub returns : goal.returns
returns c =
    let base = c.args.base.now in
    let names = c.args.hierarchies.now in
    layers_said base names c.args.items.now c.in_ok-images.images.items c.reverse.new.self.items c.from_vec.result c.in_ok-images.ensures c.reverse.ensures.items
    (subst (λ layers. SayTheSame layers (map (part_below base names) c.reverse.new.self.items)) (sym c.from_vec.ensures)
    (subst (λ images. SayTheSame c.in_ok-layers.layers.items (map (part_below base names) images)) c.as_slice.ensures.value c.in_ok-layers.ensures))
