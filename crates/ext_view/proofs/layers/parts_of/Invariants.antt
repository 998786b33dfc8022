use Rattle.std.proofs.Common.{◌++◌, drop, map}
use Rattle.ext_layer.specs.Joining.{SayTheSame}
use Rattle.ext_view.specs.Parts.{AreAdded, part_below}
use Rattle.ext_view.proofs.layers.parts_of.Given as goal

-- what is left with the layers so far says what all images say
abbrev pub invariant-images : goal.invariant-images
invariant-images l = record {
  added : AreAdded l.base l.hierarchies l.added l.layers.items;
  says : SayTheSame (l.layers.items ++ map (part_below l.base l.hierarchies) (drop l.image-index l.images)) (map (part_below l.base l.hierarchies) l.images);
}
