use Rattle.std.proofs.Common.{◌≤◌, take}
use Rattle.std.specs.List.{AllZip}
use Rattle.ext_feature.specs.Features.{SaysFeature, feature_file}
use Rattle.ext_feature.specs.Reading.{FileSays}
use Rattle.ext_feature.proofs.reading.read_features.Given as goal

abbrev pub invariant-loop-file : goal.invariant-loop-file
invariant-loop-file g l = record {
  read : AllZip (FileSays (g.H.Shelf.told l.fn.shelf) (λ feature. feature_file feature.name) SaysFeature) (take l.file-index l.files) l.features.items;
  stays : g.H.Shelf.stays l.fn.shelf l.shelf;
  count : g.H.Shelf.faults l.fn.shelf ≤ g.H.Shelf.faults l.shelf;
}
