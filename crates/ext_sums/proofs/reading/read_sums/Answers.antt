use Rattle.std.proofs.Common.{sym, subst}
use Rattle.ext_sums.specs.Manifest.{IsManifest}
use Rattle.ext_sums.specs.Sorting.{with_keys}
use Rattle.ext_sums.proofs.ReadingLemmas.{conflict_fault, manifest, stop_fault}
use Rattle.ext_sums.proofs.SortingLemmas.{read_keyed}
use Rattle.ext_sums.proofs.reading.read_sums.Goals as goal

pub returns-in-Some : goal.returns-in-Some
returns-in-Some c =
    let sort = c.in_ok-sorted.ensures in
    let ns = c.in_ok-read.read.lines.items in
    let read = read_keyed sort.count c.args.bytes.now ns c.in_ok-read.read.stop c.in_ok-read.ensures in
    conflict_fault c.args.bytes.now (with_keys sort.count ns) c.in_ok-sorted.field-0.items c.in_ok-read.read.stop c.in_ok-merge.merge.conflict c.in-Some.line read sort.sorted c.in_ok-merge.ensures.least c.in-Some.is

pub returns-in-Some-stop : goal.returns-in-Some-stop
returns-in-Some-stop c =
    let sort = c.in_ok-sorted.ensures in
    let ns = c.in_ok-read.read.lines.items in
    let read = read_keyed sort.count c.args.bytes.now ns c.in_ok-read.read.stop c.in_ok-read.ensures in
    stop_fault c.args.bytes.now (with_keys sort.count ns) c.in_ok-sorted.field-0.items c.in_ok-read.read.stop c.in_ok-merge.merge.conflict c.in-Some-stop.line read sort.sorted c.in_ok-merge.ensures.least c.in_default.is c.in-Some-stop.is

pub returns-in-None : goal.returns-in-None
returns-in-None c =
    let sort = c.in_ok-sorted.ensures in
    let ns = c.in_ok-read.read.lines.items in
    let read = read_keyed sort.count c.args.bytes.now ns c.in_ok-read.read.stop c.in_ok-read.ensures in
    subst (IsManifest c.args.bytes.now) (sym c.of.ensures)
    (manifest c.args.bytes.now (with_keys sort.count ns) c.in_ok-sorted.field-0.items c.in_ok-read.read.stop c.in_ok-merge.merge.conflict _ read sort.sorted c.in_ok-merge.ensures c.in_default.is c.in-None.is)
