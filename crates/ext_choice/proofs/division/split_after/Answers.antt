use Rattle.std.proofs.Common.{rules, ◌∙◌}
use Rattle.std.proofs.lemmas.List.Sorted.{IsPartitionPoint-from_clause}
use Rattle.ext_choice.proofs.VacuumLemmas.{is_up_to, split_here, split_later, up_to_splits}
use Rattle.ext_choice.proofs.division.split_after.Goals as goal

pub returns-clause-here : goal.returns-clause-here
returns-clause-here c =
    c.split_at.ensures.front
    ∙ split_here c.args.place c.args.items.now c.partition_point-count.result c.requires c.partition_point-count.ensures.bound
    (IsPartitionPoint-from_clause
    (is_up_to c.args.place) c.args.items.now c.partition_point-count.result c.partition_point-count.ensures.partitioned
    (up_to_splits c.args.place c.args.place c.args.items.now c.requires)
    (λ a r f h. search rules))

pub returns-clause-later : goal.returns-clause-later
returns-clause-later c =
    c.split_at.ensures.back
    ∙ split_later c.args.place c.args.items.now c.partition_point-count.result c.partition_point-count.ensures.bound
    (IsPartitionPoint-from_clause
    (is_up_to c.args.place) c.args.items.now c.partition_point-count.result c.partition_point-count.ensures.partitioned
    (up_to_splits c.args.place c.args.place c.args.items.now c.requires)
    (λ a r f h. search rules))
