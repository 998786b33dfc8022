use Rattle.std.proofs.Common.{ap, length, arith}
use Rattle.ext_resources.proofs.LackingLemmas.{length-marks, next_lacking}
use Rattle.ext_resources.proofs.lacking.lacking.Goals as goal

pub index-requires : goal.index-requires
index-requires c =
    omega (arith, ap length c.in_ok-have.ensures, length-marks c.args.items.now c.args.version.now c.args.count, c.in_ok-have.have.ok.0, c.loop-place-test.true)

pub loop-place-preserved : goal.loop-place-preserved
loop-place-preserved c =
    next_lacking c.args.items.now c.args.version.now c.args.count c.loop-place.place c.in_ok-have.have.items c.index.result.now
    c.loop-place.places.items c.push_unmarked.new.places.items c.in_ok-have.ensures c.loop-place-test.true c.index.ensures c.loop-place.invariant
    c.in_ok-push_unmarked.ensures
