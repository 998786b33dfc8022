use Rattle.std.proofs.Common.{rules, ◌∙◌}
use Rattle.std.proofs.lemmas.List.Sorted.{IsPartitionPoint-from_clause}
use Rattle.ext_available.specs.Offers.{offer_comes_before}
use Rattle.ext_available.proofs.OfferLemmas.{from_split, partitioned}
use Rattle.ext_available.proofs.offer.offers_from.Goals as goal

pub returns : goal.returns
returns c =
    c.split_at.ensures.back
    ∙ from_split c.args.version.now c.args.offers.now c.partition_point-count.result c.partition_point-count.ensures.bound
    (IsPartitionPoint-from_clause (offer_comes_before c.args.version.now) c.args.offers.now c.partition_point-count.result c.partition_point-count.ensures.partitioned
    (partitioned c.args.version.now c.args.offers.now c.requires)
    (λ a r f h. search rules))
