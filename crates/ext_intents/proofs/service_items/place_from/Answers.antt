use Rattle.std.proofs.Common.{rules}
use Rattle.std.proofs.lemmas.List.Sorted.{IsPartitionPoint-from_clause}
use Rattle.ext_intents.specs.ServiceItems.{is_earlier_name}
use Rattle.ext_intents.proofs.AttachmentLemmas.{at_point, name_splits}
use Rattle.ext_intents.proofs.service_items.place_from.Goals as goal

pub returns : goal.returns
returns c =
    at_point c.args.name.now c.args.attached.now c.partition_point.result c.partition_point.ensures.bound
    (IsPartitionPoint-from_clause (is_earlier_name c.args.name.now) c.args.attached.now c.partition_point.result c.partition_point.ensures.partitioned
    (name_splits c.args.name.now c.args.attached.now c.requires)
    (λ a r f h. search rules))
