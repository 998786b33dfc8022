use Rattle.std.proofs.Common.{◌≤◌, take}
use Rattle.std.specs.List.{AllZip}
use Rattle.ext_feature.specs.Active.{SaysTransfer}
use Rattle.ext_feature.specs.Reading.{FileSays}
use Rattle.ext_feature.proofs.loading.read_transfers.Given as goal

abbrev pub invariant-loop-file : goal.invariant-loop-file
invariant-loop-file g l = record {
  read : AllZip (FileSays (g.H.Shelf.told l.fn.shelf) (λ transfer. transfer.file) (SaysTransfer l.basis.arch l.basis.host)) (take l.file-index l.files) l.transfers.items;
  stays : g.H.Shelf.stays l.fn.shelf l.shelf;
  count : g.H.Shelf.faults l.fn.shelf ≤ g.H.Shelf.faults l.shelf;
}
