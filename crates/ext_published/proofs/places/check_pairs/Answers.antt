use Rattle.ext_published.specs.Places.{FitsBelow}
use Rattle.ext_published.proofs.PlacesLemmas.{each_more}
use Rattle.ext_published.proofs.places.check_pairs.Goals as goal

pub pairs-preserved : goal.pairs-preserved
pairs-preserved c =
    each_more (FitsBelow c.args.resource.now) c.args.pairs.now c.pairs.pair-index c.pair-item.result c.pairs-test.true c.pair-item.is c.pairs.invariant c.in_ok-check_pair.ensures
